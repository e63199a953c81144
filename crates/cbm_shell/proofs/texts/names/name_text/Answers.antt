use Rattle.std.proofs.Common.{◌++◌, ap, ◌∙◌, string_bytes, arith}
use Rattle.std.specs.Str.{chars}
use Rattle.cbm_shell.specs.Names.{name_text, codes_of}
use Rattle.cbm_shell.proofs.NameLemmas.{text-none, text-next, read_back}
use Rattle.cbm_shell.proofs.texts.names.name_text.Goals as goal

pub codes-init : goal.codes-init
codes-init c = ap (λ t. t ++ name_text c.args.charset c.args.name.now) c.new-text.ensures.bytes

pub codes-preserved : goal.codes-preserved
codes-preserved c =
    text-next (string_bytes c.codes.text) _ _ c.codes.rest.now c.in-Some.afterwards.now c.args.charset _ c.codes.invariant c.in-Some.ensures.cases.0 c.in_ok-add_code.ensures

pub returns-clause-shown : goal.returns-clause-shown
returns-clause-shown c = text-none (string_bytes c.codes.text) _ c.codes.rest.now c.args.charset c.codes.invariant c.in_default.ensures.cases

-- all of it was added, and that is read back
pub returns-clause-read_back : goal.returns-clause-read_back
returns-clause-read_back c =
    ap (λ t. codes_of c.args.charset (chars t)) (text-none (string_bytes c.codes.text) _ c.codes.rest.now c.args.charset c.codes.invariant c.in_default.ensures.cases)
    ∙ read_back c.args.charset c.args.name.now (λ i. let f = c.type_inv.name i in omega arith)
