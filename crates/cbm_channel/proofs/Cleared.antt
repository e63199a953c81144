-- Slots that are scratched one after another, on any disk.
use Rattle.std.proofs.Common.{◌≡◌, ◌+◌, ◌<◌, ◌≤◌, ℕ, true, List, [], ◌∷◌, length, drop, arith, refl, sym, ap, subst, ◌∙◌, inl, inr, Option, Some, None, Result}
use Rattle.std.specs.Prelude.{◌==◌, slice_index_or}
use Rattle.std.proofs.lemmas.List.{at_drop_more, drop_all}
use Rattle.std.proofs.lemmas.Bool.Decides.{eqb_tells}
use Rattle.cbm_medium.specs.Content.{Content}
use Rattle.cbm_medium.specs.Seen.{Seen}
use Rattle.cbm_volume.specs.Led.{ScratchesLed}
use Rattle.cbm_command.specs.declared.command.Command.{Command}
use Rattle.cbm_command.specs.declared.refusal.Refusal.{Refusal}
use Rattle.cbm_command.specs.Commands.{command_of}
use Rattle.cbm_machine.specs.declared.status.Status.{Status}
use Rattle.cbm_channel.specs.declared.channel.Channel.{Channel}
use Rattle.cbm_channel.specs.Meant.{ScratchesEach, WasDone, ReadWasDone}

-- one is, over media that hold the same
led_alike : (a b c d : Seen) (slot : ℕ) → a.tracks ≡ b.tracks → a.content ≡ b.content → c.content ≡ d.content → ScratchesLed a c slot → ScratchesLed b d slot
led_alike a b c d slot tracks from to h =
    subst (λ (x : Content). ScratchesLed b (record d { content = x }) slot) to
    (subst (λ (x : Content). ScratchesLed (record b { content = x }) (record d { content = c.content }) slot) from
    (subst (λ (n : ℕ). ScratchesLed (record b { tracks = n; content = a.content }) (record d { content = c.content }) slot) tracks h))

each_alike : (a b z : Seen) (slots : List ℕ) → a.tracks ≡ b.tracks → a.content ≡ b.content → ScratchesEach a z slots → ScratchesEach b z slots
each_alike a b z [] tracks same h = h ∙ same
each_alike a b z (slot ∷ rest) tracks same h = (
  h.0,
  led_alike a b (record a { content = h.0 }) (record b { content = h.0 }) slot tracks same refl h.1,
  each_alike (record a { content = h.0 }) (record b { content = h.0 }) z rest tracks refl h.2,
)

-- SO FAR: whoever scratches those that are left has scratched all.
abbrev pub ScratchesSoFar : Seen → Seen → List ℕ → List ℕ → Type 0
ScratchesSoFar old mid left all = (z : Seen) → ScratchesEach mid z left → ScratchesEach old z all

pub each_next : (old mid new : Seen) (all : List ℕ) (i : ℕ) → i < length all → new.tracks ≡ mid.tracks → ScratchesLed mid new (slice_index_or all i 0) → ScratchesSoFar old mid (drop i all) all → ScratchesSoFar old new (drop (i + 1) all) all
each_next old mid new all i more tracks led h z k =
    h z (subst (ScratchesEach mid z) (sym (at_drop_more (λ (xs : List ℕ). xs) all i 0 more))
    (new.content, led_alike mid mid new (record mid { content = new.content }) (slice_index_or all i 0) refl refl refl led, each_alike new (record mid { content = new.content }) z (drop (i + 1) all) tracks refl k))

pub each_done : (old new : Seen) (all : List ℕ) (i : ℕ) → length all ≤ i → ScratchesSoFar old new (drop i all) all → ScratchesEach old new all
each_done old new all i over h = h new (subst (ScratchesEach new new) (sym (drop_all i all over)) refl)

-- ---- what is reported

-- the command is this one
pub was_done : (command one : Command) → command ≡ one → (channels : List Channel) (before after : Seen) (status : Status) → WasDone one channels before after status → WasDone command channels before after status
was_done command one is channels before after status h = subst (λ (x : Command). WasDone x channels before after status) (sym is) h

-- the text is read so
pub read_done : (text : List ℕ) (r : Result Command Refusal) → command_of text ≡ r → (channels : List Channel) (before after : Seen) (status : Status) → ReadWasDone r channels before after status → ReadWasDone (command_of text) channels before after status
read_done text r is channels before after status h = subst (λ (x : Result Command Refusal). ReadWasDone x channels before after status) (sym is) h

-- an empty text asks for nothing
pub nothing_done : (text : List ℕ) → (length text == 0) ≡ true → (channels : List Channel) (before after : Seen) (status : Status) → ReadWasDone (command_of text) channels before after status
nothing_done [] is channels before after status = tt
nothing_done (x ∷ rest) is channels before after status = elim (eqb_tells (length (x ∷ rest)) 0) [
  | inl y ↦ absurd (omega (arith, y.1))
  | inr y ↦ let z = sym y.0 ∙ is in absurd (cc)
]

-- the text that was taken is the one that was gathered
abbrev text_in : Option (ℕ × List ℕ) → List ℕ
text_in None = []
text_in (Some t) = t.1

pub same_text : (kept : Option (ℕ × List ℕ)) (t : ℕ × List ℕ) (text : List ℕ) → kept ≡ Some t → kept ≡ Some (15, text) → t.1 ≡ text
same_text kept t text is has = ap text_in (sym is ∙ has)
