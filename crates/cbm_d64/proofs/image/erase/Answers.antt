use Rattle.std.proofs.Common.{◌≡◌, ◌<◌, ℕ, List, ◌++◌, length, replicate, arith, subst, sym, ap, ◌∙◌}
use Rattle.std.proofs.lemmas.List.{length-append, length-replicate}
use Rattle.cbm_d64.specs.Image.{sector_at, error_at, sectors_in}
use Rattle.cbm_d64.proofs.Sectors.{sector_in_zeros, ones_are_good, sector_room}
use Rattle.cbm_d64.proofs.image.erase.Goals as goal

pub returns : goal.returns
returns c =
    let ones = c.fill-2.ensures.after (λ y e. e) in
    let whole : length (c.fill.new.self ++ replicate (length c.split_at_mut-sectors.result.1.now) 1) ≡ length c.args.image.now
    = omega (
      arith,
      length-append {A = ℕ} c.fill.new.self (replicate (length c.split_at_mut-sectors.result.1.now) 1),
      length-replicate {A = ℕ} (length c.split_at_mut-sectors.result.1.now) 1,
      ap length c.split_at_mut-sectors.ensures.value,
      length-append {A = ℕ} c.split_at_mut-sectors.result.0.now c.split_at_mut-sectors.result.1.now,
      c.fill.ensures.len,
    ) in
    record {
      size = ap (λ (zs : List ℕ). length (c.fill.new.self ++ zs)) ones ∙ whole;
      sectors = λ j h.
          let room = sector_room (length c.args.image.now) j c.requires h in
          subst (λ (zs : List ℕ). sector_at (zs ++ c.fill-2.new.self) j ≡ replicate 256 0) (sym (c.fill.ensures.after (λ y e. e)))
          (sector_in_zeros (length c.split_at_mut-sectors.result.0.now) c.fill-2.new.self j (omega arith));
      errors = λ j h.
          subst (λ (zs : List ℕ). error_at (c.fill.new.self ++ zs) j ≡ 1) (sym ones)
          (ones_are_good c.fill.new.self (length c.split_at_mut-sectors.result.1.now) j
          (λ e. let front : sectors_in (length c.args.image.now) ≡ 683 = ap sectors_in (sym whole ∙ e) in
          omega (arith, front, c.fill.ensures.len, c.split_at_mut-sectors.ensures.front_len, c.sectors_in.ensures))
          (subst (λ (n : ℕ). j < sectors_in n) (sym whole) h));
    }
