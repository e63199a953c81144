-- A trace that is written as lines is read back event by event.
use Rattle.std.proofs.Common.{◌≡◌, ◌≢◌, ℕ, ◌^◌, ◌<◌, ◌≤◌, List, [], ◌∷◌, ◌++◌, length, true, Option, Some, refl, ap, ◌∙◌, arith, append_assoc}
use Rattle.std.specs.Prelude.{codes, decimal, option_map}
use Rattle.std.specs.List.{list_all}
use Rattle.std.proofs.lemmas.Fmt.{digits_decimal, decimal_nonempty}
use Rattle.cbm_iec.specs.declared.event.Event.{Event}
use Rattle.cbm_iec.specs.declared.event.Who.{Who}
use Rattle.cbm_iec.specs.declared.event.Who.TheVariants.{Host, Drive}
use Rattle.cbm_iec.specs.declared.lines.Line.{Line}
use Rattle.cbm_iec.specs.declared.lines.Line.TheVariants.{Atn, Clock, Data}
use Rattle.cbm_iec.specs.declared.lines.Way.{Way}
use Rattle.cbm_iec.specs.declared.lines.Way.TheVariants.{Pull, Free}
use Rattle.bus_traces.specs.Words.{is_decimal}
use Rattle.bus_traces.specs.Events.{who_text, line_text, way_text, event_words, event_text, trace_text, event_read, IsParty, IsOfTrace}
use Rattle.bus_traces.specs.declared.cable.Cable.{Cable}
use Rattle.bus_traces.specs.declared.recorder.TraceForm.TheVariants.{Lines}
use Rattle.bus_traces.specs.Cables.{after}
use Rattle.bus_traces.specs.Records.{events_recorded}
use Rattle.bus_traces.specs.Lines.{lines_of}
use Rattle.bus_traces.specs.Reading.{after_moment, line_says, with_event, moment_after, events_from, AreOfTrace, trace_of}
use Rattle.bus_traces.proofs.LineLemmas.{IsUnbroken, broken}
use Rattle.bus_traces.proofs.ReadingBack.{own, event_back}

-- ---- an event's words are one line

unbroken-join : (xs ys : List ℕ) → IsUnbroken xs → IsUnbroken ys → IsUnbroken (xs ++ ys)
unbroken-join [] ys h k = k
unbroken-join (x ∷ xs) ys h k = (h.0, unbroken-join xs ys h.1 k)

digits_unbroken : (ds : List ℕ) → list_all is_decimal ds ≡ true → IsUnbroken ds
digits_unbroken [] h = tt
digits_unbroken (b ∷ ds) h =
    let more = digits_unbroken ds (grind (arith, h)) in
    let other : b ≢ 10 = grind (arith, h) in
    (other, more)

space_unbroken : IsUnbroken (codes " ")
space_unbroken = (omega arith, tt)

number_unbroken : (n : ℕ) → n < 2 ^ 64 → IsUnbroken (decimal n)
number_unbroken n room = digits_unbroken (decimal n) (digits_decimal own n room)

who_unbroken : (who : Who) → IsParty who → IsUnbroken (who_text who)
who_unbroken Host p = (omega arith, (omega arith, (omega arith, (omega arith, tt))))
who_unbroken (Drive device) p = number_unbroken device (omega (arith, p))

line_unbroken : (line : Line) → IsUnbroken (line_text line)
line_unbroken Atn = (omega arith, (omega arith, (omega arith, tt)))
line_unbroken Clock = (omega arith, (omega arith, (omega arith, (omega arith, (omega arith, tt)))))
line_unbroken Data = (omega arith, (omega arith, (omega arith, (omega arith, tt))))

way_unbroken : (way : Way) → IsUnbroken (way_text way)
way_unbroken Pull = (omega arith, (omega arith, (omega arith, (omega arith, tt))))
way_unbroken Free = (omega arith, (omega arith, (omega arith, (omega arith, tt))))

words_unbroken : (e : Event) → IsOfTrace e → IsUnbroken (event_words e)
words_unbroken e h =
    let moment = number_unbroken e.change.moment (let m = h.moment in omega (arith, m)) in
    let who = who_unbroken e.who h.party in
    let line = line_unbroken e.change.line in
    let way = way_unbroken e.change.way in
    unbroken-join _ _ (unbroken-join _ _ (unbroken-join _ _ (unbroken-join _ _ (unbroken-join _ _ (unbroken-join _ _ moment space_unbroken) who) space_unbroken) line) space_unbroken) way

-- ---- the line says the event

-- what begins with a digit is no comment
says_event : (digits rest : List ℕ) (from : ℕ) → list_all is_decimal digits ≡ true → 0 < length digits
    → line_says from (digits ++ rest) ≡ after_moment from (event_read (digits ++ rest))
says_event [] rest from h n = absurd (omega arith)
says_event (b ∷ digits) rest from h n = let other : b ≢ 59 = grind (arith, h) in grind (arith, other)

-- the words as the moment's digits and others
begins : (e : Event) → (rest : List ℕ) × (event_words e ≡ decimal e.change.moment ++ rest)
begins e =
    let m = decimal e.change.moment in
    let w = who_text e.who in
    let l = line_text e.change.line in
    let y = way_text e.change.way in (
      (((((codes " ") ++ w) ++ codes " ") ++ l) ++ codes " ") ++ y,
      ap (λ t. (((t ++ codes " ") ++ l) ++ codes " ") ++ y) (append_assoc m (codes " ") w)
          ∙ ap (λ t. ((t ++ l) ++ codes " ") ++ y) (append_assoc m (codes " " ++ w) (codes " "))
          ∙ ap (λ t. (t ++ codes " ") ++ y) (append_assoc m ((codes " " ++ w) ++ codes " ") l)
          ∙ ap (λ t. t ++ y) (append_assoc m (((codes " " ++ w) ++ codes " ") ++ l) (codes " "))
          ∙ append_assoc m ((((codes " " ++ w) ++ codes " ") ++ l) ++ codes " ") y,
    )

line_back : (from : ℕ) (e : Event) → from ≤ e.change.moment → IsOfTrace e → line_says from (event_words e) ≡ Some (Some e)
line_back from e later h =
    let room : e.change.moment < 2 ^ 64 = (let m = h.moment in omega (arith, m)) in
    let b = begins e in
    let says = says_event (decimal e.change.moment) b.0 from (digits_decimal own e.change.moment room) (decimal_nonempty e.change.moment room) in
    let same : line_says from (event_words e) ≡ after_moment from (event_read (event_words e)) = rw b.1 says in
    let back = event_back e h in
    same ∙ (ap (after_moment from) back ∙ grind (arith, later))

-- ---- the trace

pub trace_back : (from : ℕ) (es : List Event) → AreOfTrace from es → events_from from (lines_of (trace_text es)) ≡ Some es
trace_back from [] h = refl
trace_back from (e ∷ es) h =
    let ended : event_text e ++ trace_text es ≡ event_words e ++ 10 ∷ trace_text es = append_assoc (event_words e) (codes "\n") (trace_text es) in
    let lines = ap lines_of ended ∙ broken (event_words e) (trace_text es) (words_unbroken e h.1) in
    let says = line_back from e h.0 h.1 in
    let rest = trace_back e.change.moment es h.2 in
    ap (events_from from) lines
    ∙ ap (λ (s : Option (Option Event)). with_event s (events_from (moment_after from s) (lines_of (trace_text es)))) says
    ∙ ap (option_map (λ (xs : List Event). e ∷ xs)) rest

-- what a recorder writes as lines
recorded_lines : (last : ℕ) (cable : Cable) (es : List Event) → events_recorded Lines last cable es ≡ trace_text es
recorded_lines last cable [] = refl
recorded_lines last cable (e ∷ es) = ap (λ t. event_text e ++ t) (recorded_lines e.change.moment (after e cable) es)

pub recorded_back : (last : ℕ) (cable : Cable) (es : List Event) → AreOfTrace 0 es → trace_of (events_recorded Lines last cable es) ≡ Some es
recorded_back last cable es h = ap trace_of (recorded_lines last cable es) ∙ trace_back 0 es h
