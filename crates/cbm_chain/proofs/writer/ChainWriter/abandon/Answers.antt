use Rattle.std.proofs.Common.{◌≡◌, ◌-◌, ℕ, Some, None, sym, ap, subst, ◌∙◌, inl}
use Rattle.std.proofs.lemmas.Result.{err_from_is_err_and}
use Rattle.cbm_medium.specs.Place.{Place}
use Rattle.cbm_medium.specs.Content.{Content}
use Rattle.cbm_medium.specs.Links.{Followed}
use Rattle.cbm_medium.specs.Met.{IsMetFrom}
use Rattle.cbm_bam.specs.Map.{Frees}
use Rattle.cbm_chain.specs.Writing.{State}
use Rattle.cbm_chain.specs.GivenUp.{linked_blocks}
use Rattle.cbm_medium.proofs.Reached.{starts_there}
use Rattle.cbm_chain.proofs.Linked.{linked_met, not_cut, all_given_back, none_given_up, led_given_up}
use Rattle.cbm_chain.proofs.writer.ChainWriter.abandon.Goals as goal

-- the block that is given back first is the writer's first one
first_given : {s now : State} {p q : Place} → s ≡ now → s.first ≡ Some p → q ≡ p → now.first ≡ Some q
first_given view is from = sym (ap (λ (s : State). s.first) view) ∙ is ∙ ap (λ (p : Place). Some p) (sym from)

-- and after it as many follow as the writer counts, less one
blocks_after : {s now : State} {n : ℕ} → s ≡ now → n ≡ s.count - 1 → n ≡ now.count - 1
blocks_after view is = is ∙ ap (λ (s : State). s.count - 1) view

pub returns-in_err-give_linked-clause-cause : goal.returns-in_err-give_linked-clause-cause
returns-in_err-give_linked-clause-cause g c =
    let content : Content = (g.M.Medium.seen c.args.medium.now).content in
    let p = err_from_is_err_and c.from_residual-in_err-give_linked.result c.from_residual-in_err-give_linked.ensures.1 in
    let starts : Place → Type 0 = λ q. c.args.self.now.first ≡ Some q in
    let first : c.args.self.now.first ≡ Some c.from.result = first_given c.self.view_is c.in-Some.is c.from.ensures in
    rw (p.1, p.2) (inl (subst (λ (n : ℕ). IsMetFrom n content starts c.in_err-give_linked.field-0.0) (ap (λ (s : State). s.tracks) c.self.view_is)
    (linked_met c.self.inside.geometry content starts c.saturating_sub-more.result c.from.result c.in_err-give_linked.field-0.0 (starts_there c.self.inside.geometry content starts c.from.result first) c.in_err-give_linked.ensures.walk.cut)))

-- the blocks that were written are linked
pub returns-in_err-give_linked-clause-linked : goal.returns-in_err-give_linked-clause-linked
returns-in_err-give_linked-clause-linked g c = λ blocks bytes w few.
    let content : Content = (g.M.Medium.seen c.args.medium.now).content in
    let first : c.args.self.now.first ≡ Some c.from.result = first_given c.self.view_is c.in-Some.is c.from.ensures in
    let more : c.saturating_sub-more.result ≡ c.args.self.now.count - 1 = blocks_after c.self.view_is c.saturating_sub-more.ensures in
    let cut : (linked_blocks c.args.self.now.tracks content c.saturating_sub-more.result c.from.result).trouble ≡ Some c.in_err-give_linked.field-0.0 =
    subst (λ (n : ℕ). (linked_blocks n content c.saturating_sub-more.result c.from.result).trouble ≡ Some c.in_err-give_linked.field-0.0) (ap (λ (s : State). s.tracks) c.self.view_is) c.in_err-give_linked.ensures.walk.cut in
    absurd (not_cut content c.args.self.now c.from.result c.saturating_sub-more.result c.in_err-give_linked.field-0.0 first more cut blocks bytes w few)

pub returns-clause-given : goal.returns-clause-given
returns-clause-given g c =
    let old : Content = (g.M.Medium.seen c.args.medium.now).content in
    let new : Content = (g.M.Medium.seen c.write.new.medium).content in
    let first : c.args.self.now.first ≡ Some c.from.result = first_given c.self.view_is c.in-Some.is c.from.ensures in
    let more : c.saturating_sub-more.result ≡ c.args.self.now.count - 1 = blocks_after c.self.view_is c.saturating_sub-more.ensures in
    let frees : Frees c.args.self.now.tracks c.in_ok-release.release (linked_blocks c.args.self.now.tracks old c.saturating_sub-more.result c.from.result).blocks c.give_linked.new.release =
    subst (λ (n : ℕ). Frees n c.in_ok-release.release (linked_blocks n old c.saturating_sub-more.result c.from.result).blocks c.give_linked.new.release) (ap (λ (s : State). s.tracks) c.self.view_is) c.in_ok-give_linked.ensures.freed in
    all_given_back old new c.args.self.now c.from.result c.saturating_sub-more.result c.in_ok-release.release c.give_linked.new.release c.write.result first more c.in_ok-release.ensures.ok frees c.write.ensures.ok

-- ---- on any disk

pub returns-in_default-clause-led : goal.returns-in_default-clause-led
returns-in_default-clause-led g c = none_given_up (g.M.Medium.seen c.args.medium.now).content c.args.self.now (sym (ap (λ (s : State). s.first) c.self.view_is) ∙ c.in_default.is)

pub returns-clause-led : goal.returns-clause-led
returns-clause-led g c =
    let old : Content = (g.M.Medium.seen c.args.medium.now).content in
    let new : Content = (g.M.Medium.seen c.write.new.medium).content in
    let first : c.args.self.now.first ≡ Some c.from.result = first_given c.self.view_is c.in-Some.is c.from.ensures in
    let more : c.saturating_sub-more.result ≡ c.args.self.now.count - 1 = blocks_after c.self.view_is c.saturating_sub-more.ensures in
    let linked : Followed = linked_blocks c.args.self.now.tracks old c.saturating_sub-more.result c.from.result in
    let freed : (linked.trouble ≡ None) × Frees c.args.self.now.tracks c.in_ok-release.release linked.blocks c.give_linked.new.release =
    subst (λ (n : ℕ). let linked = linked_blocks n old c.saturating_sub-more.result c.from.result in (linked.trouble ≡ None) × Frees n c.in_ok-release.release linked.blocks c.give_linked.new.release) (ap (λ (s : State). s.tracks) c.self.view_is)
    (c.in_ok-give_linked.ensures.walk.whole, c.in_ok-give_linked.ensures.freed) in
    led_given_up old new c.args.self.now c.from.result c.saturating_sub-more.result c.in_ok-release.release c.give_linked.new.release c.write.result first more c.in_ok-release.ensures.ok freed.0 freed.1 c.write.ensures.ok
