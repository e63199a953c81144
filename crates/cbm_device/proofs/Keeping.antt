-- What a drive's state is added as, part after part.
use Rattle.std.proofs.Common.{◌≡◌, ℕ, List, [], ◌∷◌, ◌++◌, ap, ◌∙◌, append_assoc}
use Rattle.std.specs.Prelude.{Result, Ok, Err, OnOk, IfOk, IfErr, MatchResult, is_ok, if◌then◌else◌}
use Rattle.cbm_device.specs.declared.image_disk.Sectors.{Sectors}
use Rattle.cbm_saved.specs.Numbers.{eight_bytes}
use Rattle.cbm_drive.specs.Saved.{saved_seat}
use Rattle.cbm_device.specs.Devices.{OnLines}
use Rattle.cbm_device.specs.Snapshots.{DiskParts, AreSectorsOf, AreSectorsKept, IsKeptDisk, IsKeptState, kind_number, saved_parts}

-- four parts, one after another
pub four_joined : {A E : Type 0} (r : Result A E) (out a b c d one two three new : List ℕ) → one ≡ out ++ a → two ≡ one ++ b → three ≡ two ++ c → OnOk r (new ≡ three ++ d)
    → OnOk r (new ≡ out ++ (a ++ (b ++ (c ++ d))))
four_joined (Ok x) out a b c d one two three new e f g h =
    h ∙ ap (λ (l : List ℕ). l ++ d) (g ∙ ap (λ (l : List ℕ). l ++ c) (f ∙ ap (λ (l : List ℕ). l ++ b) e))
    ∙ append_assoc ((out ++ a) ++ b) c d ∙ append_assoc (out ++ a) b (c ++ d) ∙ append_assoc out a (b ++ (c ++ d))
four_joined (Err x) out a b c d one two three new e f g h = tt

-- the parts of these sectors
pub kept_so : {A E : Type 0} (r : Result A E) (s : Sectors) (writes : ℕ) (p : DiskParts) (before after : List ℕ) → AreSectorsOf p s → p.writes ≡ writes → OnOk r (after ≡ before ++ saved_parts p)
    → OnOk r (AreSectorsKept s writes before after)
kept_so (Ok x) s writes p before after is same h = (p, is, same, h)
kept_so (Err x) s writes p before after is same h = tt

-- a list was lengthened, if there was memory
pub lengthened : {A E : Type 0} (r : Result A E) (new longer old : List ℕ) → new ≡ (if is_ok r then longer else old) → OnOk r (new ≡ longer)
lengthened (Ok x) new longer old e = e
lengthened (Err x) new longer old e = tt

-- the state of a drive
pub kept_state : {A E : Type 0} (r : Result A E) (d : OnLines) (before one two three new : List ℕ) → one ≡ before ++ kind_number d.kind ∷ [] → two ≡ one ++ eight_bytes d.latest
    → IsKeptDisk d.seat.machine.dos.medium two three → OnOk r (new ≡ three ++ saved_seat d.seat) → OnOk r (IsKeptState d before new)
kept_state {A = A} {E = E} (Ok x) d before one two three new e f (p, is, g) h =
    (p, is, four_joined {A = A} {E = E} (Ok x) before (kind_number d.kind ∷ []) (eight_bytes d.latest) (saved_parts p) (saved_seat d.seat) one two three new e f g h)
kept_state (Err x) d before one two three new e f k h = tt

-- both sides of a result
pub either : {A E : Type 0} (r : Result A E) (P : A → Type 0) (Q : E → Type 0) → IfOk r P → IfErr r Q → MatchResult r P Q
either (Ok x) P Q h k = h
either (Err x) P Q h k = k
