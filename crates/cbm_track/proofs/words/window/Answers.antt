use Rattle.std.proofs.Common.{◌≡◌, ◌∙◌, ap, arith, ℕ, ◌*◌, ◌^◌, ◌%◌, ◌/◌, ◌-◌}
use Rattle.std.specs.Prelude.{◌==◌}
use Rattle.std.specs.Int.{bit_at}
use Rattle.cbm_track.specs.Words.{number_from, eight}
use Rattle.cbm_track.proofs.Windows.{window_bit}
use Rattle.cbm_track.proofs.words.window.Goals as goal
use Rattle.cbm_track.proofs.words.window.Goals.{then-i-track, else-i-track}

pub returns : goal.returns
returns c =
    let word : c.if-i-track.word ≡ number_from 0 (eight c.args.track.now (c.args.place / 8)) = elim c.if-i-track.branch [
      | then-i-track w ↦ w.word-is ∙ w.word_inside-word.ensures
      | else-i-track w ↦ w.word-is ∙ w.word_around-word.ensures
    ] in
    λ j l. ap (λ (n : ℕ). bit_at (n * 2 ^ (c.args.place % 8) % 18446744073709551616) (63 - j) == 1) word
    ∙ window_bit c.args.track.now c.args.place j (omega arith) (λ k. omega (arith, c.type_inv.track k)) l
