-- A request under way goes on by one event.
use Rattle.std.proofs.Common.{◌≡◌, ℕ, zero, suc, ◌<◌, ◌≤◌, Bool, true, false, List, [], ◌∷◌, ◌++◌, Option, Some, None, Result, Ok, Err, IfErr, refl, sym, ap, ◌∙◌, subst, arith}
use Rattle.std.proofs.lemmas.List.{append_assoc, append-nil}
use Rattle.std.proofs.lemmas.List.Elements.{All-append}
use Rattle.std.specs.List.{AllZip}
use Rattle.std.specs.Prelude.{IsErrAnd, MatchBool, MatchResult, slice_index_or}
use Rattle.cbm_drive.specs.Cables.{Cabled}
use Rattle.cbm_drive.specs.Players.{at_start, from_after, pending, IsAfter}
use Rattle.cbm_drive.specs.Seats.{Seated, IsSeat, IsBusAt, wires_held_by}
use Rattle.cbm_host.specs.Engines.{Engined, engine_due}
use Rattle.cbm_host.specs.Performed.{taken_with, last_with, from_last, begins, goes, IsPerforming, IsCutShort, HasAddedUpTo, HasPerformed}
use Rattle.cbm_host.specs.Performers.{Performing, IsHandedOn, StopsPerforming, HasStopped, HasNext}
use Rattle.cbm_iec.specs.declared.machine.Act.{Act}
use Rattle.cbm_iec.specs.declared.event.Event.{Event}
use Rattle.cbm_session.specs.Playing.{Station, Plays, stays, IsByte, AllBytes}

pub if_no : (v : Bool) (P Q : Type 0) → v ≡ false → MatchBool v P Q → Q
if_no v P Q e h = subst (λ (b : Bool). MatchBool b P Q) e h

pub if_yes : (v : Bool) (P Q : Type 0) → v ≡ true → MatchBool v P Q → P
if_yes v P Q e h = subst (λ (b : Bool). MatchBool b P Q) e h

-- what holds whatever the error is
pub if_err : {A E : Type 0} (r : Result A E) (P : E → Type 0) → ((e : E) → P e) → IfErr r P
if_err (Ok x) P f = tt
if_err (Err e) P f = f e

-- an error of any kind
pub match_err : {A E : Type 0} (r : Result A E) (S : E → Type 0) (Q : A → Type 0) (P : E → Type 0) → IsErrAnd r S → ((e : E) → P e) → MatchResult r Q P
match_err (Ok a) S Q P is h = elim is [ ]
match_err (Err e) S Q P is h = h e

-- ---- events up to a limit

-- none was added; one; and more after them
pub added_none : (limit : ℕ) (old new : List Event) → new ≡ old → HasAddedUpTo limit old new
added_none limit old new same = record { made = []; added = same ∙ sym (append-nil old); within = λ k d l. absurd (omega (arith, l)) }

one_within : (P : Event → Type 0) (x : Event) → P x → (k : ℕ) (d : Event) → k < 1 → P (slice_index_or (x ∷ []) k d)
one_within P x h zero d l = h
one_within P x h (suc k) d l = absurd (omega (arith, l))

pub added_one : (limit : ℕ) (old new : List Event) (x : Event) → new ≡ old ++ x ∷ [] → x.change.moment ≤ limit → HasAddedUpTo limit old new
added_one limit old new x added within = record { made = x ∷ []; added = added; within = one_within (λ e. e.change.moment ≤ limit) x within }

pub added_more : (limit : ℕ) (old mid new : List Event) → HasAddedUpTo limit old mid → HasAddedUpTo limit mid new → HasAddedUpTo limit old new
added_more limit old mid new h k = record {
  made = h.made ++ k.made;
  added = k.added ∙ (ap (λ (l : List Event). l ++ k.made) h.added ∙ append_assoc old h.made k.made);
  within = All-append (λ e. e.change.moment ≤ limit) h.made k.made h.within k.within;
}

last_of : (t : ℕ) (es : List Event) (x : Event) → from_last t (es ++ x ∷ []) ≡ from_after x.who x.change.moment
last_of t [] x = refl
last_of t (e ∷ es) x = last_of (from_after e.who e.change.moment) es x

-- Before a call other drives may stand for the stations than after it: `stood` and `stands`.
module _ (D M : Type 0) (stood stands : D → M → Type 0) (step : M → Act → M) (says : M → Option (ℕ × Bool)) where
  pub performing_on : (e : Engined) (limit : ℕ) (old new : Performing) (b b2 : Cabled D) (first es es2 : List Event) (bytes bytes2 : List ℕ) (last last2 : Bool) (ss : List (Station M)) (x : Event) → (p : IsPerforming D M stood step says e limit old b first es bytes last ss)
      → HasNext D M stands step says old new b2 0 ss p.made x → es2 ≡ es ++ x ∷ [] → bytes2 ≡ bytes ++ taken_with new.byte → last2 ≡ last_with new.byte last → IsPerforming D M stands step says e limit new b2 first es2 bytes2 last2 ss
  performing_on e limit old new b b2 first es es2 bytes bytes2 last last2 ss x p k added taken over = record {
    made = p.made ++ x ∷ [];
    added = added ∙ (ap (λ (l : List Event). l ++ x ∷ []) p.added ∙ append_assoc first p.made (x ∷ []));
    going = k.going;
    runs = goes old.engine k.found x p.made bytes last p.runs k.goes_on k.due k.engine refl (taken ∙ ap (λ (o : Option (ℕ × Bool)). bytes ++ taken_with o) k.byte) (over ∙ ap (λ (o : Option (ℕ × Bool)). last_with o last) k.byte);
    from = k.from ∙ sym (last_of 0 p.made x);
    until = k.limit ∙ p.until;
  }

  -- where there was no memory for the event, or for the byte that was taken with it
  pub cut_before : (e : Engined) (limit : ℕ) (old new : Performing) (b b2 : Cabled D) (first es es2 : List Event) (bytes : List ℕ) (last : Bool) (ss : List (Station M)) (x : Event) → (p : IsPerforming D M stood step says e limit old b first es bytes last ss)
      → HasNext D M stands step says old new b2 0 ss p.made x → es2 ≡ es → IsCutShort D M stands step says b2 first es2 ss
  cut_before e limit old new b b2 first es es2 bytes last ss x p k same =
      let a = k.going.after in
      record {
        made = p.made;
        lost = x ∷ pending new.player.second;
        from = a.from;
        stations = a.stations;
        added = same ∙ p.added;
        plays = subst (λ (l : List Event). Plays M step says 0 ss l a.from a.stations) (append_assoc p.made (x ∷ []) (pending new.player.second)) a.plays;
        now = a.now;
      }

  pub cut_after_it : (e : Engined) (limit : ℕ) (old new : Performing) (b b2 : Cabled D) (first es es2 : List Event) (bytes : List ℕ) (last : Bool) (ss : List (Station M)) (x : Event) → (p : IsPerforming D M stood step says e limit old b first es bytes last ss)
      → HasNext D M stands step says old new b2 0 ss p.made x → es2 ≡ es ++ x ∷ [] → IsCutShort D M stands step says b2 first es2 ss
  cut_after_it e limit old new b b2 first es es2 bytes last ss x p k more =
      let a = k.going.after in
      record {
        made = p.made ++ x ∷ [];
        lost = pending new.player.second;
        from = a.from;
        stations = a.stations;
        added = more ∙ (ap (λ (l : List Event). l ++ x ∷ []) p.added ∙ append_assoc first p.made (x ∷ []));
        plays = a.plays;
        now = a.now;
      }

  -- where nothing came
  pub performing_still : (e : Engined) (limit : ℕ) (old new : Performing) (b b2 : Cabled D) (first es : List Event) (bytes : List ℕ) (last : Bool) (ss : List (Station M)) → (p : IsPerforming D M stood step says e limit old b first es bytes last ss) → HasStopped D M stands step says old new b2 0 ss p.made
      → HasPerformed D M stands step says e limit new b2 first es bytes last ss
  performing_still e limit old new b b2 first es bytes last ss p k = record {
    made = p.made;
    added = p.added;
    going = k.going;
    afterwards = old.engine;
    runs = p.runs;
    goes_on = k.goes_on;
    stops = subst (λ (l : ℕ). StopsPerforming M step says new.player l 0 ss p.made (engine_due new.engine)) (k.limit ∙ p.until) k.stops;
    from = k.from ∙ p.from;
    until = k.limit ∙ p.until;
  }

module _ (D M : Type 0) (stands : D → M → Type 0) (step : M → Act → M) (says : M → Option (ℕ × Bool)) where
  -- what is said is a byte
  all_bytes : (R : Seated D → Station M → Type 0) → ((x : Seated D) (s : Station M) → R x s → IsByte M step says (says s.machine)) → (xs : List (Seated D)) (ss : List (Station M)) → AllZip R xs ss → AllBytes M step says ss
  all_bytes R byte [] [] h = tt
  all_bytes R byte [] (s ∷ ss) h = elim h [ ]
  all_bytes R byte (x ∷ xs) [] h = elim h [ ]
  all_bytes R byte (x ∷ xs) (s ∷ ss) h = (byte x s h.0, all_bytes R byte xs ss h.1)

  one_byte : (o : Option (ℕ × Bool)) → ((n : ℕ) (last : Bool) → o ≡ Some (n, last) → n < 256) → IsByte M step says o
  one_byte None f = tt
  one_byte (Some said) f = f said.0 said.1 refl

  -- before the first event
  pub performing_none : (byte : (x : D) (m : M) (n : ℕ) (last : Bool) → stands x m → says m ≡ Some (n, last) → n < 256) (e : Engined) (limit : ℕ) (p : Performing) (b : Cabled D) (first : List Event) (bytes : List ℕ) (last : Bool) (ss : List (Station M)) → IsBusAt D M stands b.host b.drives ss → p.player ≡ at_start
      → p.engine ≡ e → p.limit ≡ limit → bytes ≡ [] → last ≡ false → IsPerforming D M stands step says e limit p b first first bytes last ss
  performing_none byte e limit p b first bytes last ss bus player engine until none last_is = record {
    made = [];
    added = sym (append-nil first);
    going = record {
      after = subst (λ x. IsAfter D M stands step says x b 0 ss []) (sym player) (record {
        from = 0;
        stations = ss;
        before = omega arith;
        plays = stays (all_bytes (IsSeat D M stands (wires_held_by b.host b.drives)) (λ x s h. one_byte (says s.machine) (λ n l said. byte x.machine s.machine n l h.machine said)) b.drives ss bus) refl refl refl;
        now = bus;
        second = tt;
      });
      handed = subst (λ x. IsHandedOn x.waiting p.engine) (sym player) tt;
    };
    runs = begins engine refl none last_is;
    from = ap (λ x. x.from) player;
    until = until;
  }
