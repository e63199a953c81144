use Rattle.std.proofs.Common.{rules, sym, inl}
use Rattle.cbm_medium.specs.Seen.{Seen}
use Rattle.cbm_volume.specs.Growth.{IsTooLarge, IsGrowthCut}
use Rattle.cbm_volume.specs.Growing.{IsPlanned}
use Rattle.cbm_volume.proofs.grown.GrowingMeans.{none_says, some_says, same_untouched, nothing_cut, stopped_files, grows, grown_means, grown_files, not_too}
use Rattle.cbm_volume.proofs.layouts.Hindered.{handed_on}
use Rattle.cbm_volume.proofs.records.growing.grow_in_slot.Goals as goal

-- on a sound disk there is a plan, or none is needed
pub returns-in_err-plan-clause-call : goal.returns-in_err-plan-clause-call
returns-in_err-plan-clause-call g c = λ d uses w b s rs o free.
    record {
      grown = (search rules);
      full = λ large. absurd (c.in_err-plan.ensures.planned d uses w b s rs o free);
      stopped = absurd (c.in_err-plan.ensures.planned d uses w b s rs o free);
      untouched = absurd (c.in_err-plan.ensures.planned d uses w b s rs o free);
    }

-- too large
pub returns-in_default-clause-call : goal.returns-in_default-clause-call
returns-in_default-clause-call g c = λ d uses w b s rs o free.
    record {
      grown =
          let old : Seen = g.M.Medium.seen c.args.medium.now in
          let none = none_says c.in_ok-plan.field-0 (IsTooLarge d w b s c.args.number) (λ p. IsPlanned old.tracks old.content d uses c.args.slot w b s rs o c.args.number p.file p.extent.blocks p.extent.sides p.blocks) c.in_default.is (c.in_ok-plan.ensures.planned d uses w b s rs o free) in
          (none, λ i. old.content);
      full = (search rules);
      stopped = (search rules);
      untouched =
          let old : Seen = g.M.Medium.seen c.args.medium.now in
          same_untouched old old d uses c.args.slot w b s rs o (λ i. old.content);
    }

-- a protected medium
pub returns-then-protected-clause-call : goal.returns-then-protected-clause-call
returns-then-protected-clause-call g c = λ d uses w b s rs o free.
    record {
      grown = (search rules);
      full =
          λ large.
          let old : Seen = g.M.Medium.seen c.args.medium.now in
          let plan = some_says c.in_ok-plan.field-0 c.in-Some.plan (IsTooLarge d w b s c.args.number) (λ p. IsPlanned old.tracks old.content d uses c.args.slot w b s rs o c.args.number p.file p.extent.blocks p.extent.sides p.blocks) c.in-Some.is (c.in_ok-plan.ensures.planned d uses w b s rs o free) in
          absurd (not_too old old d uses c.args.slot w b s rs o c.args.number c.in-Some.plan.file c.in-Some.plan.extent.blocks c.in-Some.plan.extent.sides c.in-Some.plan.blocks plan large);
      stopped =
          let old : Seen = g.M.Medium.seen c.args.medium.now in
          nothing_cut old old d uses c.args.slot w b s rs o (record { code = 26; track = 0; sector = 0 }) (λ i. old.content) (inl (sym c.if-protected.ensures, λ i. 26));
      untouched =
          let old : Seen = g.M.Medium.seen c.args.medium.now in
          same_untouched old old d uses c.args.slot w b s rs o (λ i. old.content);
    }

-- a write was refused
pub returns-in_err-grow_to-clause-call : goal.returns-in_err-grow_to-clause-call
returns-in_err-grow_to-clause-call g c = λ d uses w b s rs o free.
    record {
      grown = (search rules);
      full =
          λ large.
          let old : Seen = g.M.Medium.seen c.args.medium.now in
          let plan = some_says c.in_ok-plan.field-0 c.in-Some.plan (IsTooLarge d w b s c.args.number) (λ p. IsPlanned old.tracks old.content d uses c.args.slot w b s rs o c.args.number p.file p.extent.blocks p.extent.sides p.blocks) c.in-Some.is (c.in_ok-plan.ensures.planned d uses w b s rs o free) in
          absurd (not_too old old d uses c.args.slot w b s rs o c.args.number c.in-Some.plan.file c.in-Some.plan.extent.blocks c.in-Some.plan.extent.sides c.in-Some.plan.blocks plan large);
      stopped =
          let old : Seen = g.M.Medium.seen c.args.medium.now in
          let new : Seen = g.M.Medium.seen c.grow_to.new.medium in
          let plan = some_says c.in_ok-plan.field-0 c.in-Some.plan (IsTooLarge d w b s c.args.number) (λ p. IsPlanned old.tracks old.content d uses c.args.slot w b s rs o c.args.number p.file p.extent.blocks p.extent.sides p.blocks) c.in-Some.is (c.in_ok-plan.ensures.planned d uses w b s rs o free) in
          let stop = grows old new d uses c.args.slot w b s rs o c.args.number c.in-Some.plan.file c.in-Some.plan.extent.blocks c.in-Some.plan.extent.sides c.in-Some.plan.blocks (λ p y. y c.in_err-grow_to.field-0.0) plan c.in_err-grow_to.ensures.grown in
          handed_on c.from_residual-in_err-grow_to.result c.in_err-grow_to.field-0.0 (IsGrowthCut old new d uses c.args.slot w rs) c.from_residual-in_err-grow_to.ensures.1 stop.0;
      untouched =
          let old : Seen = g.M.Medium.seen c.args.medium.now in
          let new : Seen = g.M.Medium.seen c.grow_to.new.medium in
          let plan = some_says c.in_ok-plan.field-0 c.in-Some.plan (IsTooLarge d w b s c.args.number) (λ p. IsPlanned old.tracks old.content d uses c.args.slot w b s rs o c.args.number p.file p.extent.blocks p.extent.sides p.blocks) c.in-Some.is (c.in_ok-plan.ensures.planned d uses w b s rs o free) in
          let stop = grows old new d uses c.args.slot w b s rs o c.args.number c.in-Some.plan.file c.in-Some.plan.extent.blocks c.in-Some.plan.extent.sides c.in-Some.plan.blocks (λ p y. y c.in_err-grow_to.field-0.0) plan c.in_err-grow_to.ensures.grown in
          stopped_files old new d uses c.args.slot w b s rs o c.in_err-grow_to.field-0.0 stop;
    }

-- the file has grown
pub returns-clause-call : goal.returns-clause-call
returns-clause-call g c = λ d uses w b s rs o free.
    record {
      grown =
          let old : Seen = g.M.Medium.seen c.args.medium.now in
          let new : Seen = g.M.Medium.seen c.grow_to.new.medium in
          let plan = some_says c.in_ok-plan.field-0 c.in-Some.plan (IsTooLarge d w b s c.args.number) (λ p. IsPlanned old.tracks old.content d uses c.args.slot w b s rs o c.args.number p.file p.extent.blocks p.extent.sides p.blocks) c.in-Some.is (c.in_ok-plan.ensures.planned d uses w b s rs o free) in
          let grown = grows old new d uses c.args.slot w b s rs o c.args.number c.in-Some.plan.file c.in-Some.plan.extent.blocks c.in-Some.plan.extent.sides c.in-Some.plan.blocks (λ p y. p) plan c.in_ok-grow_to.ensures.grown in
          grown_means old new d uses c.args.slot w b s rs o c.args.number c.in-Some.plan.file c.in-Some.plan.extent.blocks c.in-Some.plan.extent.sides c.in-Some.plan.blocks plan grown;
      full =
          λ large.
          let old : Seen = g.M.Medium.seen c.args.medium.now in
          let plan = some_says c.in_ok-plan.field-0 c.in-Some.plan (IsTooLarge d w b s c.args.number) (λ p. IsPlanned old.tracks old.content d uses c.args.slot w b s rs o c.args.number p.file p.extent.blocks p.extent.sides p.blocks) c.in-Some.is (c.in_ok-plan.ensures.planned d uses w b s rs o free) in
          absurd (not_too old old d uses c.args.slot w b s rs o c.args.number c.in-Some.plan.file c.in-Some.plan.extent.blocks c.in-Some.plan.extent.sides c.in-Some.plan.blocks plan large);
      stopped = (search rules);
      untouched =
          let old : Seen = g.M.Medium.seen c.args.medium.now in
          let new : Seen = g.M.Medium.seen c.grow_to.new.medium in
          let plan = some_says c.in_ok-plan.field-0 c.in-Some.plan (IsTooLarge d w b s c.args.number) (λ p. IsPlanned old.tracks old.content d uses c.args.slot w b s rs o c.args.number p.file p.extent.blocks p.extent.sides p.blocks) c.in-Some.is (c.in_ok-plan.ensures.planned d uses w b s rs o free) in
          let grown = grows old new d uses c.args.slot w b s rs o c.args.number c.in-Some.plan.file c.in-Some.plan.extent.blocks c.in-Some.plan.extent.sides c.in-Some.plan.blocks (λ p y. p) plan c.in_ok-grow_to.ensures.grown in
          grown_files old new d uses c.args.slot w b s rs o c.in-Some.plan.blocks grown;
    }
