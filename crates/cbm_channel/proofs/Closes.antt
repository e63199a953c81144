-- The channels are closed one after another.
use Rattle.std.proofs.Common.{◌≡◌, ℕ, zero, suc, ◌+◌, ◌<◌, [], ◌∷◌, ◌++◌, false, take, refl, arith}
use Rattle.cbm_machine.specs.Machines.{Machine}
use Rattle.cbm_machine.specs.Closing.{close, close_one, channel_numbers, without_text}
use Rattle.cbm_channel.specs.Going.{closing, closings, closings_of}
use Rattle.std.specs.Prelude.{◌==◌}

-- the first channels, and one more
pub closings_next : (ch : ℕ) → ch < 15 → closings_of (take (ch + 1) channel_numbers) ≡ closings_of (take ch channel_numbers) ++ (ch, close_one ch) ∷ []
closings_next zero lt = refl
closings_next (suc zero) lt = refl
closings_next (suc (suc zero)) lt = refl
closings_next (suc (suc (suc zero))) lt = refl
closings_next (suc (suc (suc (suc zero)))) lt = refl
closings_next (suc (suc (suc (suc (suc zero))))) lt = refl
closings_next (suc (suc (suc (suc (suc (suc zero)))))) lt = refl
closings_next (suc (suc (suc (suc (suc (suc (suc zero))))))) lt = refl
closings_next (suc (suc (suc (suc (suc (suc (suc (suc zero)))))))) lt = refl
closings_next (suc (suc (suc (suc (suc (suc (suc (suc (suc zero))))))))) lt = refl
closings_next (suc (suc (suc (suc (suc (suc (suc (suc (suc (suc zero)))))))))) lt = refl
closings_next (suc (suc (suc (suc (suc (suc (suc (suc (suc (suc (suc zero))))))))))) lt = refl
closings_next (suc (suc (suc (suc (suc (suc (suc (suc (suc (suc (suc (suc zero)))))))))))) lt = refl
closings_next (suc (suc (suc (suc (suc (suc (suc (suc (suc (suc (suc (suc (suc zero))))))))))))) lt = refl
closings_next (suc (suc (suc (suc (suc (suc (suc (suc (suc (suc (suc (suc (suc (suc zero)))))))))))))) lt = refl
closings_next (suc (suc (suc (suc (suc (suc (suc (suc (suc (suc (suc (suc (suc (suc (suc ch))))))))))))))) lt = absurd (omega (arith, lt))

pub close_first : (ch : ℕ) (m : Machine) → (ch == 15) ≡ false → close ch m ≡ close_one ch m
close_first ch m e = rw e refl

-- the parts of a CLOSE
pub parts_first : (ch : ℕ) → (ch == 15) ≡ false → closing ch ≡ (ch, close_one ch) ∷ []
parts_first ch e = rw e refl

pub parts_15 : (ch : ℕ) → ch ≡ 15 → closing ch ≡ closings ++ (15, without_text 15) ∷ []
parts_15 ch e = rw e refl
