use Rattle.std.proofs.Common.{◌∙◌, sym, ap, arith}
use Rattle.cbm_command.specs.Openings.{opening_of}
use Rattle.cbm_command.proofs.Spelled.{by_length, usual}
use Rattle.cbm_command.proofs.open_text.parse_open.Goals as goal

-- the reading is the definition's, and that reads the usual text so
pub returns-clause-usual : goal.returns-clause-usual
returns-clause-usual c = λ name kind mode two plain held e.
    c.by_first.ensures
    ∙ sym (by_length c.args.channel c.args.text.now (omega arith))
    ∙ ap (opening_of c.args.channel) e
    ∙ usual c.args.channel name kind mode two plain held
