use Rattle.std.proofs.Common.{◌≡◌, ◌≢◌, ℕ, suc, ◌+◌, ◌-◌, ◌<◌, List, [], ◌∷◌, ◌++◌, length, get_or, take, drop, ◌∙◌, arith, append_assoc, length-append, add-one, eqb, false}
use Rattle.std.proofs.Math.Seq.{drop-cons}
use Rattle.std.proofs.lemmas.Bool.Decides.{nat_tests}
use Rattle.cbm_command.specs.Texts.{before_byte}
use Rattle.cbm_command.proofs.name.Name.of.Goals as goal

-- one more byte of a name
one_more : (xs : List ℕ) (i : ℕ) (bs : List ℕ) → i < length xs → get_or xs i 0 ≢ 160 → length bs < 16 →
    bs ++ take (16 - length bs) (before_byte 160 (drop i xs)) ≡ (bs ++ get_or xs i 0 ∷ []) ++ take (16 - length (bs ++ get_or xs i 0 ∷ [])) (before_byte 160 (drop (i + 1) xs))
one_more xs i bs lt ne room =
    let split = drop-cons xs i 0 lt in
    let unlike : eqb (get_or xs i 0) 160 ≡ false = grind (arith, nat_tests) in
    let fewer : 16 - length bs ≡ suc (16 - length (bs ++ get_or xs i 0 ∷ [])) = omega (arith, length-append bs (get_or xs i 0 ∷ [])) in
    rw (append_assoc, add-one, split, unlike, fewer)

pub loop-byte-preserved : goal.loop-byte-preserved
loop-byte-preserved c =
    c.loop-byte.invariant ∙ rw c.push.ensures.items (one_more c.args.text.now c.loop-byte.byte-index c.loop-byte.bytes.items (omega arith) c.if-byte.false (omega (arith, c.len.ensures.value)))
