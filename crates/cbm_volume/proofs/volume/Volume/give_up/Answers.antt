use Rattle.std.proofs.Common.{◌≡◌, ap, subst}
use Rattle.std.specs.Prelude.{OnOk, OnErr}
use Rattle.cbm_medium.specs.Content.{Content}
use Rattle.cbm_medium.specs.Seen.{Seen}
use Rattle.cbm_chain.specs.Writing.{State}
use Rattle.cbm_chain.specs.GivenUp.{GivesUpLed}
use Rattle.cbm_volume.specs.Writers.{Filling}
use Rattle.cbm_volume.proofs.layouts.Calls.{if_ok}
use Rattle.cbm_volume.proofs.written.GivingUp.{Back, Refused, given_up, given_up_stopped, given_up_hindered, given_up_untouched}
use Rattle.cbm_volume.proofs.volume.Volume.give_up.Given.{Over}
use Rattle.cbm_volume.proofs.volume.Volume.give_up.Goals as goal

-- what the chain's writer promises, of the writer and the medium as they were given
back : (g : Over) (c : goal.After-abandon g) → Back (g.M.Medium.seen c.args.self.now).content (g.M.Medium.seen c.abandon.new.medium).content c.args.writer.now.chain c.abandon.result
back g c =
    subst (λ (s : State). Back (g.M.Medium.seen c.args.self.now).content (g.M.Medium.seen c.abandon.new.medium).content s c.abandon.result) (ap (λ (w : Filling). w.chain) c.writer.view_is)
    (subst (λ (x : Content). Back x (g.M.Medium.seen c.abandon.new.medium).content c.writer.inside.chain c.abandon.result) (ap (λ m. (g.M.Medium.seen m).content) c.self.view_is) c.abandon.ensures.given)

same : (g : Over) (c : goal.After-abandon g) → OnErr c.abandon.result ((g.M.Medium.seen c.abandon.new.medium).content ≡ (g.M.Medium.seen c.args.self.now).content)
same g c = subst (λ (x : Content). OnErr c.abandon.result ((g.M.Medium.seen c.abandon.new.medium).content ≡ x)) (ap (λ m. (g.M.Medium.seen m).content) c.self.view_is) c.abandon.ensures.err

pub returns-clause-call : goal.returns-clause-call
returns-clause-call g c = λ d uses ch bytes blocks h e.
    record {
      done = if_ok c.abandon.result _ (given_up (g.M.Medium.seen c.args.self.now).tracks (g.M.Medium.seen c.args.self.now).content (g.M.Medium.seen c.abandon.new.medium).content c.args.writer.now c.abandon.result (back g c) d uses ch bytes blocks h e);
      stopped = given_up_stopped (g.M.Medium.seen c.args.self.now).tracks (g.M.Medium.seen c.args.self.now).content (g.M.Medium.seen c.abandon.new.medium).content c.args.writer.now c.abandon.result (same g c) d uses ch bytes blocks h e;
      cause =
          given_up_hindered (g.M.Medium.seen c.args.self.now).tracks (g.M.Medium.seen c.args.self.now) (g.M.Medium.seen c.abandon.new.medium) c.args.writer.now c.abandon.result
          (subst (λ (s : State). Refused (g.M.Medium.seen c.args.self.now) (g.M.Medium.seen c.abandon.new.medium) s c.abandon.result) (ap (λ (w : Filling). w.chain) c.writer.view_is)
          (subst (λ (x : Seen). Refused x (g.M.Medium.seen c.abandon.new.medium) c.writer.inside.chain c.abandon.result) (ap g.M.Medium.seen c.self.view_is) c.abandon.ensures.linked)) d uses ch bytes blocks h e;
      untouched = given_up_untouched (g.M.Medium.seen c.args.self.now).tracks (g.M.Medium.seen c.args.self.now).content (g.M.Medium.seen c.abandon.new.medium).content c.args.writer.now c.abandon.result (back g c) (same g c) d uses ch bytes blocks h e;
    }

-- ---- on any disk

pub returns-clause-led : goal.returns-clause-led
returns-clause-led g c =
    subst (λ (s : State). OnOk c.abandon.result (GivesUpLed (g.M.Medium.seen c.args.self.now).content (g.M.Medium.seen c.abandon.new.medium).content s)) (ap (λ (w : Filling). w.chain) c.writer.view_is)
    (subst (λ (x : Content). OnOk c.abandon.result (GivesUpLed x (g.M.Medium.seen c.abandon.new.medium).content c.writer.inside.chain)) (ap (λ m. (g.M.Medium.seen m).content) c.self.view_is) c.abandon.ensures.led)
