use Rattle.std.proofs.Common.{◌∙◌, refl, arith, length, ◌-◌, drop}
use Rattle.std.proofs.lemmas.List.{take_all, length-drop}
use Rattle.cbm_shell.proofs.images.wrapped.unwrapped.Goals as goal

pub returns : goal.returns
returns c = record {
  name_is = c.before_zero.ensures.value;
  length_is = refl;
  bytes_are = take_all (length c.args.file.now - 26) (drop 26 c.args.file.now) (omega (arith, length-drop 26 c.args.file.now));
}
