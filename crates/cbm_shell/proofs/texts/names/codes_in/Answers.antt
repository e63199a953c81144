use Rattle.std.proofs.Common.{◌∙◌, ap, rules}
use Rattle.cbm_shell.specs.Names.{codes_of}
use Rattle.cbm_shell.proofs.NameLemmas.{afterwards, codes-start, codes-next, codes-refused, codes-end}
use Rattle.cbm_shell.proofs.texts.names.codes_in.Goals as goal

pub codes-init : goal.codes-init
codes-init c = ap (λ l. afterwards l (codes_of c.args.charset c.args.text.now)) c.new-codes.ensures.items ∙ codes-start (codes_of c.args.charset c.args.text.now)

pub codes-preserved : goal.codes-preserved
codes-preserved c =
    codes-next c.codes.codes.items _ c.codes.rest.now c.in-Some.afterwards.now _ c.args.charset _ _ _ c.codes.invariant c.in-Some.ensures.cases.0 c.in-Some-next_code.ensures.read (search rules)

pub returns-in_default-next_code : goal.returns-in_default-next_code
returns-in_default-next_code c =
    codes-refused c.codes.codes.items c.codes.rest.now c.in-Some.afterwards.now c.args.charset _ _ c.codes.invariant c.in-Some.ensures.cases.0 c.in_default-next_code.ensures.read

pub returns : goal.returns
returns c = codes-end c.codes.codes.items c.codes.rest.now c.args.charset _ c.codes.invariant c.in_default.ensures.cases
