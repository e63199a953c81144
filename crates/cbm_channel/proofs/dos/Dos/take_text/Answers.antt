use Rattle.std.proofs.Common.{sym, ap, subst, ◌∙◌}
use Rattle.std.specs.Prelude.{MatchOption}
use Rattle.cbm_machine.specs.Closing.{forget_text}
use Rattle.cbm_channel.specs.Standing.{HasText, HasNoText}
use Rattle.cbm_channel.proofs.Stands.{forgotten, stood, text_taken, text_stays, none_there, other_there, this_there}
use Rattle.cbm_channel.proofs.dos.Dos.take_text.Goals as goal

-- no text was gathered
pub returns-in_err-text-clause-leads : goal.returns-in_err-text-clause-leads
returns-in_err-text-clause-leads g c = λ m s.
    let st = stood g.M.Medium.seen _ _ m c.self.view_is s in
    let none = sym c.take.ensures.value ∙ c.in_err-text.was in
    forgotten _ _ _ _ _ _ m c.args.channel _ (c.take.ensures.after ∙ sym (ap (forget_text c.args.channel) none)) st

pub returns-in_err-text-clause-text : goal.returns-in_err-text-clause-text
returns-in_err-text-clause-text g c = λ m s.
    let st = stood g.M.Medium.seen _ _ m c.self.view_is s in
    subst (λ r. MatchOption r (HasNoText c.args.channel m) (HasText c.args.channel m)) (sym c.from_residual.ensures)
    (none_there c.args.channel m (st.same_text ∙ sym c.take.ensures.value ∙ c.in_err-text.was))

-- it is this channel's
pub returns-then-channel-clause-leads : goal.returns-then-channel-clause-leads
returns-then-channel-clause-leads g c = λ m s.
    let st = stood g.M.Medium.seen _ _ m c.self.view_is s in
    let is = sym c.take.ensures.value ∙ c.in_ok-text.was in
    forgotten _ _ _ _ _ _ m c.args.channel _
    (c.take.ensures.after ∙ sym (ap (forget_text c.args.channel) is ∙ text_taken c.args.channel c.in_ok-text.text (sym c.channel.ensures.value ∙ c.if-channel.true))) st

pub returns-then-channel-clause-text : goal.returns-then-channel-clause-text
returns-then-channel-clause-text g c = λ m s.
    let st = stood g.M.Medium.seen _ _ m c.self.view_is s in
    this_there c.args.channel m c.in_ok-text.text (st.same_text ∙ sym c.take.ensures.value ∙ c.in_ok-text.was) (sym c.channel.ensures.value ∙ c.if-channel.true) c.channel.ensures.some

-- it is another one's
pub returns-clause-leads : goal.returns-clause-leads
returns-clause-leads g c = λ m s.
    let st = stood g.M.Medium.seen _ _ m c.self.view_is s in
    let is = sym c.take.ensures.value ∙ c.in_ok-text.was in
    forgotten _ _ _ _ _ _ m c.args.channel _
    (sym (ap (forget_text c.args.channel) is ∙ text_stays c.args.channel c.in_ok-text.text (λ e. c.if-channel.false (c.channel.ensures.value ∙ e)))) st

pub returns-clause-text : goal.returns-clause-text
returns-clause-text g c = λ m s.
    let st = stood g.M.Medium.seen _ _ m c.self.view_is s in
    other_there c.args.channel m c.in_ok-text.text (st.same_text ∙ sym c.take.ensures.value ∙ c.in_ok-text.was) (λ e. c.if-channel.false (c.channel.ensures.value ∙ e))
