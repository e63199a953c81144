use Rattle.std.proofs.Common.{◌≡◌, ◌∙◌, sym, ap, arith, ℕ, List, Bool, false, Option, Some, None, take, refl}
use Rattle.cbm_sector.specs.Answer.{passes, wanted_test}
use Rattle.cbm_sector.specs.Decoding.{coded_at}
use Rattle.cbm_sector.proofs.Reading.{coded_no_front}
use Rattle.cbm_sector.proofs.Showing.{coded_part, wanted_headers}
use Rattle.cbm_sector.proofs.header.is_wanted_at.Goals as goal

-- nothing that passes a test stands where what has code there doesn't pass
no_pass : (test : List ℕ → Bool) (t : List Bool) (p : ℕ) → ((v : List ℕ) → coded_at t p 8 ≡ Some v → test v ≡ false) → passes test (coded_at t p 8) ≡ false
no_pass test t p none = go (coded_at t p 8) refl
  where
    go : (o : Option (List ℕ)) → coded_at t p 8 ≡ o → passes test (coded_at t p 8) ≡ false
    go None f = ap (passes test) f
    go (Some v) f = ap (passes test) f ∙ none v f

-- nor where the first four bytes rule it out
ruled_out : (test : List ℕ → Bool) (t : List Bool) (p : ℕ) (front : List ℕ) → coded_at t p 4 ≡ Some front → ((v : List ℕ) → take 4 v ≡ front → test v ≡ false) → passes test (coded_at t p 8) ≡ false
ruled_out test t p front e none = no_pass test t p (λ v f. none v (let g : Some (take 4 v) ≡ Some front = sym (coded_part t p 4 8 v (omega arith) f) ∙ e in cc))

pub returns-then-not-may_be_header : goal.returns-then-not-may_be_header
returns-then-not-may_be_header c = sym (no_pass (wanted_test c.args.wanted.now) c.args.track.now c.args.place
    (λ v f. wanted_headers c.args.wanted.now v (c.may_be_header.ensures c.if-not-may_be_header.true v f)))

pub returns-in_default : goal.returns-in_default
returns-in_default c = sym (ap (passes (wanted_test c.args.wanted.now)) (coded_no_front c.args.track.now c.args.place 4 8 (omega arith) (sym c.in_default.ensures)))

pub returns-then-not-may_begin : goal.returns-then-not-may_begin
returns-then-not-may_begin c = sym (ruled_out (wanted_test c.args.wanted.now) c.args.track.now c.args.place c.in-Some.front (sym c.in-Some.ensures) (c.may_begin.ensures c.if-not-may_begin.true))
