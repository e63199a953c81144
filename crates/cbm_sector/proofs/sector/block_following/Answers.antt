use Rattle.std.proofs.Common.{◌∙◌, ap, arith, ℕ, ◌+◌, ◌%◌}
use Rattle.cbm_track.specs.Circle.{next_block}
use Rattle.cbm_track.proofs.Round.{next_wrapped}
use Rattle.cbm_sector.proofs.sector.block_following.Goals as goal

pub returns-clause-value : goal.returns-clause-value
returns-clause-value c =
    c.next_sync.ensures.value
    ∙ ap (λ (n : ℕ). next_block c.args.track.now ((c.args.place + 1) % n)) c.bits-bits.ensures.value
    ∙ next_wrapped c.args.track.now (c.args.place + 1) (omega arith)
