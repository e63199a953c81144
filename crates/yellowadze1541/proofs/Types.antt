-- The types that a box of `Inner` is called at, as a generic callee has them. Assumes nothing.
use Rattle.std.proofs.Common.{[], ◌∷◌, refl}
use mir.Syntax.{Dict, impl, tnil, tcons, dnil}
use mir.Raw.{raw as bare}
use denote.Exit.{no}
use denote.RattleType.{RattleType}
use denote.Param.{arg, layout}
use denote.Param.Laws.{Laws, arg_laws}
use Rattle.std_alloc.proofs.BoxSteps.Form.{Bx}
use Rattle.std_alloc.specs.contracts.boxed.Box as box
use Rattle.yellowadze1541.specs.contracts.inner.Inner as inner
use Rattle.yellowadze1541.proofs.inner.Inner.TheLaws as inner_laws
use Rattle.std.specs.contracts.alloc.Global as heap
use Rattle.std.proofs.alloc.Global.TheLaws as heap_laws
use Rattle.std.specs.contracts.impls.GlobalAllocator.TheImpl.{ghosts, dict}

abbrev pub Z : RattleType
Z = arg (bare (layout heap.the_row)) no heap.the_row

abbrev pub X : RattleType
X = arg (bare (layout inner.the_row)) no inner.the_row

abbrev pub LZ : Laws Z
LZ = arg_laws (bare (layout heap.the_row)) no heap.the_row heap_laws.the_row_laws refl

abbrev pub LX : Laws X
LX = arg_laws (bare (layout inner.the_row)) no inner.the_row inner_laws.the_row_laws refl

abbrev pub none : Dict
none = impl ("yellowadze1541::Destruct++none::drop" ∷ []) (tcons (layout Z) tnil) dnil

-- the same as the crate's own functions have them
abbrev pub E : Bx
E = record { row = inner.the_row; laws = inner_laws.the_row_laws; al = record { row = heap.the_row; laws = heap_laws.the_row_laws; g = ghosts; d = dict; drops = impl [] tnil dnil } }

abbrev pub Boxed : RattleType
Boxed = box.the_row inner.the_row heap.the_row ghosts
