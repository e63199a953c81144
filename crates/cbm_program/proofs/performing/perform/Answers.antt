use Rattle.cbm_host.proofs.Unfailing.{has_not_failed}
use Rattle.std.proofs.Common.{arith, rules, subst}
use Rattle.bus_traces.proofs.Appending.{appends-nothing}
use Rattle.cbm_program.proofs.OutputLemmas.{grows_none}
use Rattle.cbm_program.specs.Running.{IsInRange}
use Rattle.cbm_program.specs.declared.request.ScriptRequest.{ScriptRequest}
use Rattle.cbm_program.proofs.performing.perform.Goals as goal

pub returns-in-Open-clause-printed : goal.returns-in-Open-clause-printed
returns-in-Open-clause-printed g c = record { ok = rw (c.in-Open.is, ← c.as_slice.ensures.value) (λ m s. (appends-nothing _, c.carry_out.ensures.rests (has_not_failed g.M.Medium.seen g.met.M.Steady.steady c.args.drive.now c.carry_out.new.self) m (let few = c.as_slice.ensures.fits in omega (arith, few)) s)); err = (search rules); grows = grows_none _; fault = (search rules) }

pub returns-in-Put-clause-printed : goal.returns-in-Put-clause-printed
returns-in-Put-clause-printed g c = record { ok = rw (c.in-Put.is, ← c.as_slice-in-Put.ensures.value) (λ m s. (appends-nothing _, c.carry_out-in-Put.ensures.rests (has_not_failed g.M.Medium.seen g.met.M.Steady.steady c.args.drive.now c.carry_out-in-Put.new.self) m (let few = c.as_slice-in-Put.ensures.fits in omega (arith, few)) s)); err = (search rules); grows = grows_none _; fault = (search rules) }

pub returns-in-Fill-clause-printed : goal.returns-in-Fill-clause-printed
returns-in-Fill-clause-printed g c = record { ok = rw c.in-Fill.is (λ m s. (appends-nothing _, c.carry_out-in-Fill.ensures.rests (has_not_failed g.M.Medium.seen g.met.M.Steady.steady c.args.drive.now c.carry_out-in-Fill.new.self) m (subst (λ (r : ScriptRequest). IsInRange r) c.in-Fill.is c.requires.request).1 s)); err = (search rules); grows = grows_none _; fault = (search rules) }

pub returns-in-Close-clause-printed : goal.returns-in-Close-clause-printed
returns-in-Close-clause-printed g c = record { ok = rw c.in-Close.is (λ m s. (appends-nothing _, c.carry_out-in-Close.ensures.rests (has_not_failed g.M.Medium.seen g.met.M.Steady.steady c.args.drive.now c.carry_out-in-Close.new.self) m tt s)); err = (search rules); grows = grows_none _; fault = (search rules) }

pub returns-in-Get-clause-printed : goal.returns-in-Get-clause-printed
returns-in-Get-clause-printed g c = rw c.in-Get.is c.print_get.ensures.printed

pub returns-in-Status-clause-printed : goal.returns-in-Status-clause-printed
returns-in-Status-clause-printed g c = rw c.in-Status.is c.print_status.ensures.printed
