-- What a call that writes a record in place leaves on any content.
use Rattle.std.specs.Prelude.{ℕ, ◌≡◌, ◌≢◌, ◌≤◌, true, false, Option, None, Result, IfOk, IfErr, IfNone, IfSome}
use Rattle.cbm_medium.specs.Content.{Content}
use Rattle.cbm_medium.specs.Seen.{Seen, ShowsGround}
use Rattle.cbm_medium.specs.declared.fault.Trouble.{Trouble}
use Rattle.cbm_relfile.specs.Records.{Relative}
use Rattle.cbm_relfile.specs.Missing.{IsNextMissing}
use Rattle.cbm_relfile.specs.declared.changing.WrittenRecord.{WrittenRecord}

-- None says that nothing has changed. A record that is there has a small number, as this many bytes have 768 blocks at most, and isn't
-- written on a protected medium, which stays as it is. That the next record doesn't read is never reported as protection, and the medium
-- shows it.
pub record IsRecordWrite (result : Result (Option WrittenRecord) Trouble) (old new : Seen) (number : ℕ) : Type 0 where
  pub kept : IfOk result (λ o. o ≡ None → new.content ≡ old.content)
  pub few : IfOk result (λ o. IfSome o (λ r. number ≤ 195072))
  pub allowed : IfOk result (λ o. IfSome o (λ r. old.protected ≡ false))
  pub guarded : old.protected ≡ true → new.content ≡ old.content
  pub next_never_26 : IfOk result (λ o. IfSome o (λ r. IfErr r.next (λ t. t.code ≢ 26)))
  pub next_shown : IfOk result (λ o. IfSome o (λ r. IfErr r.next (ShowsGround new)))

-- That the next record isn't there says that it was missing before the call.
abbrev pub MissesNext : Result (Option WrittenRecord) Trouble → ℕ → Content → Relative → ℕ → Type 0
MissesNext result tracks c file number = IfOk result (λ o. IfSome o (λ r. IfOk r.next (λ x. IfNone x (IsNextMissing tracks c file number))))
