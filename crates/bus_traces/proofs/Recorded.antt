-- What a recorder has written of events so far.
use Rattle.std.proofs.Common.{◌≡◌, ℕ, ◌+◌, List, [], ◌∷◌, ◌++◌, Option, Some, None, refl, ap, sym, ◌∙◌, append_assoc, append-nil, drop, length, ◌<◌, slice_index_or}
use Rattle.std.proofs.lemmas.List.{drop_more}
use Rattle.std.specs.Io.KnownBytes.{Appends, Keeps, append_known}
use Rattle.cbm_iec.specs.declared.event.Event.{Event}
use Rattle.bus_traces.specs.declared.cable.Cable.{Cable}
use Rattle.bus_traces.specs.declared.recorder.TraceForm.{TraceForm}
use Rattle.bus_traces.specs.Cables.{after}
use Rattle.bus_traces.specs.Records.{record_event, events_recorded}
use Rattle.bus_traces.proofs.Appending.{appends-nothing, appends-more}

-- a text was written, and with what is to be written of the rest it is all of it
pub record HasRecorded (old new : Option (List ℕ)) (all rest : List ℕ) : Type 0 where
  pub text : List ℕ
  pub written : Appends old new text
  pub whole : all ≡ text ++ rest

-- text that waits, and more after it
pub waits-more : (a b : Option (List ℕ)) (xs ys zs text : List ℕ) → Keeps (append_known a xs) (append_known b ys) → zs ≡ ys ++ text → Appends (append_known a xs) (append_known b zs) text
waits-more None b xs ys zs text h e = tt
waits-more (Some l) None xs ys zs text h e = absurd h
waits-more (Some l) (Some m) xs ys zs text h e = ap (λ t. m ++ t) e ∙ (sym (append_assoc m ys text) ∙ ap (λ t. t ++ text) h)

pub has-none : (old : Option (List ℕ)) (all : List ℕ) → HasRecorded old old all all
has-none old all = record { text = []; written = appends-nothing old; whole = refl }

pub has-more : (old new then : Option (List ℕ)) (all : List ℕ) (form : TraceForm) (last : ℕ) (cable : Cable) (e : Event) (es : List Event)
    → HasRecorded old new all (events_recorded form last cable (e ∷ es)) → Appends new then (record_event form last cable e)
    → HasRecorded old then all (events_recorded form e.change.moment (after e cable) es)
has-more old new then all form last cable e es h k = record {
  text = h.text ++ record_event form last cable e;
  written = appends-more old new then h.text (record_event form last cable e) h.written k;
  whole = h.whole ∙ sym (append_assoc h.text (record_event form last cable e) (events_recorded form e.change.moment (after e cable) es));
}

pub has-all : (old new : Option (List ℕ)) (all : List ℕ) → HasRecorded old new all [] → Appends old new all
has-all old new all h = rw (h.whole, append-nil h.text) h.written

-- the next of a list
pub has-step : (old new then : Option (List ℕ)) (all : List ℕ) (form : TraceForm) (last : ℕ) (cable : Cable) (es : List Event) (i : ℕ) (d : Event)
    → i < length es → HasRecorded old new all (events_recorded form last cable (drop i es)) → Appends new then (record_event form last cable (slice_index_or es i d))
    → HasRecorded old then all (events_recorded form (slice_index_or es i d).change.moment (after (slice_index_or es i d) cable) (drop (i + 1) es))
has-step old new then all form last cable es i d within h k =
    has-more old new then all form last cable (slice_index_or es i d) (drop (i + 1) es) (rw (drop_more es i d within) at h) k
