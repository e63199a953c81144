use Rattle.std.proofs.Common.{◌≡◌, sym, ◌∙◌, ap, subst}
use Rattle.cbm_channel.specs.Standing.{Stands}
use Rattle.cbm_machine.specs.Calls.{after_open}
use Rattle.cbm_machine.specs.Codes.{code_number}
use Rattle.cbm_channel.proofs.Steady.{steady_open}
use Rattle.cbm_shell.specs.Listing.{list_text, listing_sent}
use Rattle.cbm_shell.proofs.looking.listing.raw_list.Goals as goal

pub returns-then-status_code-ne0-clause-sent : goal.returns-then-status_code-ne0-clause-sent
returns-then-status_code-ne0-clause-sent g c = λ m s.
    let seen = g.M.Medium.seen in
    let asked : c.as_slice.result.now ≡ list_text c.args.pattern.now = c.as_slice.ensures.value ∙ c.in_ok-text.ensures in
    let stands = subst (λ t. Stands seen c.open.new.self (after_open 0 t m)) asked
    (steady_open seen g.met.M.Steady.steady c.args.dos.now c.open.new.self 0 c.as_slice.result.now c.open.ensures.goes m s) in
    (c.status.ensures.status _ stands, (λ e. c.if-status_code-ne0.true (c.status_code.ensures.value ∙ ap code_number (ap (λ x. x.code) (sym c.status.ensures.value)) ∙ e)))

pub returns-clause-sent : goal.returns-clause-sent
unfolding listing_sent
returns-clause-sent g c = λ m s.
    let seen = g.M.Medium.seen in
    let asked : c.as_slice.result.now ≡ list_text c.args.pattern.now = c.as_slice.ensures.value ∙ c.in_ok-text.ensures in
    let stands = subst (λ t. Stands seen c.open.new.self (after_open 0 t m)) asked
    (steady_open seen g.met.M.Steady.steady c.args.dos.now c.open.new.self 0 c.as_slice.result.now c.open.ensures.goes m s) in
    record {
      fine = sym (c.status_code.ensures.code _ stands) ∙ c.if-status_code-ne0.false;
      same = c.in_ok-bytes.ensures.bytes _ stands;
    }

pub returns-clause-stands : goal.returns-clause-stands
returns-clause-stands g c = λ m s.
    let seen = g.M.Medium.seen in
    let asked : c.as_slice.result.now ≡ list_text c.args.pattern.now = c.as_slice.ensures.value ∙ c.in_ok-text.ensures in
    let stands = subst (λ t. Stands seen c.open.new.self (after_open 0 t m)) asked
    (steady_open seen g.met.M.Steady.steady c.args.dos.now c.open.new.self 0 c.as_slice.result.now c.open.ensures.goes m s) in
    c.in_ok-bytes.ensures.stands _ stands
