-- An event that is written as a line is read back from it.
use Rattle.std.proofs.Common.{◌≡◌, ℕ, ◌+◌, ◌-◌, ◌*◌, ◌^◌, ◌<◌, ◌≤◌, List, [], ◌∷◌, ◌++◌, length, true, Some, refl, ap, ◌∙◌, arith, rules}
use Rattle.std.specs.Prelude.{codes, decimal, fold, position, not, drop, Option, option_map, false}
use Rattle.std.specs.Str.{bytes_eq}
use Rattle.std.specs.List.{list_all, position_or_len}
use Rattle.std.proofs.lemmas.Fmt.{digits_decimal, digits_value-decimal, length-decimal-le, decimal_nonempty}
use Rattle.std.proofs.lemmas.Str.Parse.{IsNumeralModel, numerals_by_fold}
use Rattle.std.proofs.lemmas.Grind.{common_steps}
use Rattle.bus_traces.specs.Words.{is_space, is_decimal, first_word, after_word, trace_number, number_upto}
use Rattle.bus_traces.specs.Events.{who_text, line_text, way_text, event_words, event_read, who_called, line_called, way_called, IsParty, IsOfTrace}
use Rattle.cbm_iec.specs.declared.lines.Line.{Line}
use Rattle.cbm_iec.specs.declared.lines.Line.TheVariants.{Atn, Clock, Data}
use Rattle.cbm_iec.specs.declared.lines.Way.{Way}
use Rattle.cbm_iec.specs.declared.lines.Way.TheVariants.{Pull, Free}
use Rattle.cbm_iec.specs.declared.event.Event.{Event}
use Rattle.cbm_iec.specs.declared.event.Who.{Who}
use Rattle.cbm_iec.specs.declared.event.Who.TheVariants.{Host, Drive}

-- ---- numbers

abbrev pub reads : ℕ → List ℕ → ℕ
reads n digits = fold (λ m d. 10 * m + (d - 48)) n digits

pub own : IsNumeralModel (λ ds. list_all is_decimal ds ≡ true) (reads 0)
own = numerals_by_fold _ (search rules) reads (search rules)

pub number_back : (n : ℕ) → n ≤ 1000000000000000 → trace_number (decimal n) ≡ Some n
number_back n small =
    let room : n < 2 ^ 64 = omega (arith, small) in
    let digits = digits_decimal own n room in
    let value = digits_value-decimal own n room in
    let short = length-decimal-le 16 n (omega arith) (omega (arith, small)) room in
    let some = decimal_nonempty n room in
    grind (arith, common_steps, digits, value, short, some)

-- ---- words

abbrev IsWord : List ℕ → Type 0
IsWord word = list_all (λ b. not (is_space b)) word ≡ true

ends : (word rest : List ℕ) → IsWord word → position_or_len is_space (word ++ 32 ∷ rest) ≡ length word
ends [] rest h = refl
ends (b ∷ word) rest h = let more = ends word rest (grind (arith, h)) in grind (arith, more, h)

digits_word : (ds : List ℕ) → list_all is_decimal ds ≡ true → IsWord ds
digits_word [] h = refl
digits_word (b ∷ ds) h = let more = digits_word ds (grind (arith, h)) in grind (arith, more, h)

pub first_back : (word rest : List ℕ) → IsWord word → first_word (word ++ 32 ∷ rest) ≡ word
first_back word rest h = let e = ends word rest h in grind (arith, common_steps, e)

found : (word rest : List ℕ) → IsWord word → position is_space (word ++ 32 ∷ rest) ≡ Some (length word)
found word rest h =
    let e = ends word rest h in
    let within : length word < length (word ++ 32 ∷ rest) = grind (arith, common_steps) in
    grind (arith, e, within)

dropped : (word rest : List ℕ) → drop (length word + 1) (word ++ 32 ∷ rest) ≡ rest
dropped [] rest = refl
dropped (b ∷ word) rest = let more = dropped word rest in grind (arith, common_steps, more)

pub after_back : (word rest : List ℕ) → IsWord word → after_word (word ++ 32 ∷ rest) ≡ Some rest
after_back word rest h = ap (λ (o : Option ℕ). option_map (λ at. drop (at + 1) (word ++ 32 ∷ rest)) o) (found word rest h) ∙ ap Some (dropped word rest)

-- ---- the words of an event

moment_back : (n : ℕ) → n ≤ 1000000000000000 → number_upto 1000000000000000 (decimal n) ≡ Some n
moment_back n small = let e = number_back n small in grind (arith, common_steps, e, small)

moment_word : (n : ℕ) → n ≤ 1000000000000000 → IsWord (decimal n)
moment_word n small = digits_word (decimal n) (digits_decimal own n (omega (arith, small)))

who_word : (who : Who) → IsParty who → IsWord (who_text who)
who_word Host p = refl
who_word (Drive device) p = moment_word device (omega (arith, p))

-- two letters are not `host`
not_host : (word : List ℕ) → length word ≤ 2 → bytes_eq word (codes "host") ≡ false
not_host [] h = refl
not_host (a ∷ []) h = grind (arith, common_steps)
not_host (a ∷ b ∷ []) h = grind (arith, common_steps)
not_host (a ∷ b ∷ c ∷ word) h = grind (arith, common_steps, h)

device_back : (n : ℕ) → n ≤ 30 → who_called (decimal n) ≡ Some (Drive n)
device_back n small =
    let e = number_back n (omega (arith, small)) in
    let short = length-decimal-le 2 n (omega arith) (omega (arith, small)) (omega (arith, small)) in
    let other = not_host (decimal n) short in
    grind (arith, e, small, other)

who_back : (who : Who) → IsParty who → who_called (who_text who) ≡ Some who
who_back Host p = refl
who_back (Drive device) p = device_back device p

line_word : (line : Line) → IsWord (line_text line)
line_word Atn = refl
line_word Clock = refl
line_word Data = refl

line_back : (line : Line) → line_called (line_text line) ≡ Some line
line_back Atn = refl
line_back Clock = refl
line_back Data = refl

way_back : (way : Way) → way_called (way_text way) ≡ Some way
way_back Pull = refl
way_back Free = refl

-- the words from the left
words_apart : (e : Event) → event_words e ≡ decimal e.change.moment ++ 32 ∷ (who_text e.who ++ 32 ∷ (line_text e.change.line ++ 32 ∷ way_text e.change.way))
words_apart e = grind (arith, common_steps)

pub event_back : (e : Event) → IsOfTrace e → event_read (event_words e) ≡ Some e
event_back e h =
    let apart = words_apart e in
    let moment = moment_back e.change.moment h.moment in
    let who = who_back e.who h.party in
    let line = line_back e.change.line in
    let way = way_back e.change.way in
    let m = moment_word e.change.moment h.moment in
    let w = who_word e.who h.party in
    let l = line_word e.change.line in
    let f1 = first_back (decimal e.change.moment) (who_text e.who ++ 32 ∷ (line_text e.change.line ++ 32 ∷ way_text e.change.way)) m in
    let a1 = after_back (decimal e.change.moment) (who_text e.who ++ 32 ∷ (line_text e.change.line ++ 32 ∷ way_text e.change.way)) m in
    let f2 = first_back (who_text e.who) (line_text e.change.line ++ 32 ∷ way_text e.change.way) w in
    let a2 = after_back (who_text e.who) (line_text e.change.line ++ 32 ∷ way_text e.change.way) w in
    let f3 = first_back (line_text e.change.line) (way_text e.change.way) l in
    let a3 = after_back (line_text e.change.line) (way_text e.change.way) l in
    simp (apart, f1, a1, f2, a2, f3, a3, moment, who, line, way)
