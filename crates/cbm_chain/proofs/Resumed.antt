-- A block that is made again has zeros after its bytes.
use Rattle.std.proofs.Common.{◌≡◌, ℕ, ◌+◌, ◌-◌, ◌≤◌, List, ◌++◌, length, get_or, ◌∙◌, arith}
use Rattle.std.specs.Prelude.{take, drop, replicate}
use Rattle.std.proofs.lemmas.List.{get_or-append_right, get_or-drop}
use borrow.Rule.Slice.PartMut.{put_mid, post_of}
use Rattle.cbm_chain.proofs.Filling.{zeros_at}

pub zeros_after : (ys : List ℕ) (n : ℕ) → length ys ≡ n → (i : ℕ) → 2 + n ≤ i → get_or (put_mid 2 n (replicate 256 0) ys) i 0 ≡ 0
zeros_after ys n e i l =
    get_or-append_right (take 2 (replicate 256 0)) (ys ++ post_of 2 n (replicate 256 0)) 2 i 0 (omega arith) (omega arith)
    ∙ get_or-append_right ys (post_of 2 n (replicate 256 0)) n (i - 2) 0 e (omega arith)
    ∙ get_or-drop n (drop 2 (replicate 256 0)) (i - 2 - n) 0
    ∙ get_or-drop 2 (replicate 256 0) (n + (i - 2 - n)) 0
    ∙ zeros_at 256 (2 + (n + (i - 2 - n)))
