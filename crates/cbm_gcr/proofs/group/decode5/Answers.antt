use Rattle.std.proofs.Common.{◌≡◌, ℕ, ◌<◌, List, [], ◌∷◌, Some, arith, ap, sym, refl, ◌∙◌}
use Rattle.cbm_gcr.specs.Code.{code}
use Rattle.cbm_gcr.proofs.Blocks.{at, word, Parts, parts, four, from_parts}
use Rattle.cbm_gcr.proofs.group.decode5.Goals as goal

pub returns-in_err-byte_of-clause-value : goal.returns-in_err-byte_of-clause-value
returns-in_err-byte_of-clause-value c = λ v h. (
  λ e. absurd (cc),
  λ e.
      let p : Parts v (word c.args.coded.now) = parts v c.args.coded.now h c.told-coded c.fits-coded e in
      let n = (c.in_err-byte_of.ensures (at v 0) (p.bytes 0)).1 p.first in
      absurd (cc n),
)

pub returns-in_err-byte_of-2-clause-value : goal.returns-in_err-byte_of-2-clause-value
returns-in_err-byte_of-2-clause-value c = λ v h. (
  λ e. absurd (cc),
  λ e.
      let p : Parts v (word c.args.coded.now) = parts v c.args.coded.now h c.told-coded c.fits-coded e in
      let n = (c.in_err-byte_of-2.ensures (at v 1) (p.bytes 1)).1 p.second in
      absurd (cc n),
)

pub returns-in_err-byte_of-3-clause-value : goal.returns-in_err-byte_of-3-clause-value
returns-in_err-byte_of-3-clause-value c = λ v h. (
  λ e. absurd (cc),
  λ e.
      let p : Parts v (word c.args.coded.now) = parts v c.args.coded.now h c.told-coded c.fits-coded e in
      let n = (c.in_err-byte_of-3.ensures (at v 2) (p.bytes 2)).1 p.third in
      absurd (cc n),
)

pub returns-in_err-byte_of-4-clause-value : goal.returns-in_err-byte_of-4-clause-value
returns-in_err-byte_of-4-clause-value c = λ v h. (
  λ e. absurd (cc),
  λ e.
      let p : Parts v (word c.args.coded.now) = parts v c.args.coded.now h c.told-coded c.fits-coded e in
      let n = (c.in_err-byte_of-4.ensures (at v 3) (p.bytes 3)).1 p.fourth in
      absurd (cc n),
)

pub returns-clause-value : goal.returns-clause-value
returns-clause-value c = λ v h.
    let xs : List ℕ = c.args.coded.now in
    let p : ℕ = c.in_ok-byte_of.field-0 in
    let q : ℕ = c.in_ok-byte_of-2.field-0 in
    let r : ℕ = c.in_ok-byte_of-3.field-0 in
    let s : ℕ = c.in_ok-byte_of-4.field-0 in
    let p256 : p < 256 = omega arith in
    let q256 : q < 256 = omega arith in
    let r256 : r < 256 = omega arith in
    let s256 : s < 256 = omega arith in (
      λ e.
          let same : p ∷ q ∷ r ∷ s ∷ [] ≡ v = cc in
          ap code (sym same) ∙ from_parts p q r s xs p256 q256 r256 s256 c.told-coded c.fits-coded
          ((c.in_ok-byte_of.ensures p p256).0 refl) ((c.in_ok-byte_of-2.ensures q q256).0 refl) ((c.in_ok-byte_of-3.ensures r r256).0 refl) ((c.in_ok-byte_of-4.ensures s s256).0 refl),
      λ e.
          let t : Parts v (word xs) = parts v xs h c.told-coded c.fits-coded e in
          let p' : Some p ≡ Some (at v 0) = (c.in_ok-byte_of.ensures (at v 0) (t.bytes 0)).1 t.first in
          let q' : Some q ≡ Some (at v 1) = (c.in_ok-byte_of-2.ensures (at v 1) (t.bytes 1)).1 t.second in
          let r' : Some r ≡ Some (at v 2) = (c.in_ok-byte_of-3.ensures (at v 2) (t.bytes 2)).1 t.third in
          let s' : Some s ≡ Some (at v 3) = (c.in_ok-byte_of-4.ensures (at v 3) (t.bytes 3)).1 t.fourth in
          let w : v ≡ at v 0 ∷ at v 1 ∷ at v 2 ∷ at v 3 ∷ [] = four v h.0 in
          cc,
    )
