-- Bytes that are put, and files that are finished, on any disk.
use Rattle.std.proofs.Common.{◌≡◌, ℕ, Bool, true, false, refl, sym, ap, ◌∙◌, subst, inl, inr}
use Rattle.std.specs.Prelude.{MatchBool, slice_index_or, Result, Err, IfErr}
use Rattle.cbm_medium.specs.Seen.{Seen, IsGrounded}
use Rattle.cbm_medium.specs.declared.fault.Trouble.{Trouble}
use Rattle.cbm_chain.specs.GivenUp.{GivesUpLed}
use Rattle.cbm_volume.specs.Writers.{Filling}
use Rattle.cbm_volume.specs.Led.{FinishesLed, ReplacesLed}
use Rattle.cbm_machine.specs.declared.status.Status.{Status}
use Rattle.cbm_machine.specs.Statuses.{trouble_status}
use Rattle.cbm_channel.specs.declared.channel.Channel.{Channel}
use Rattle.cbm_channel.specs.declared.channel.Channel.TheVariants.{Closed, Writing}
use Rattle.cbm_channel.specs.Shown.{is_writing}
use Rattle.cbm_channel.specs.Standing.{Kept}
use Rattle.cbm_channel.specs.ChannelCalls.{KeepsElse}
use Rattle.cbm_channel.specs.BytesMeant.{PutMeant, FinishMeant, FileWasFinished, ReportsFault, is_file_empty}
use Rattle.cbm_channel.proofs.BytesPut.{IsNotWritten, of_others}

-- ---- a byte

-- it is dropped where no file is written
pub dropped_other : (before after : Seen) (byte : ℕ) (k : Channel) → IsNotWritten k → after.content ≡ before.content → PutMeant before after byte k k true
dropped_other before after byte k none same =
    of_others (λ x. PutMeant before after byte x x true) k none (refl, refl, same) (λ l. (refl, refl, same)) (λ slot r. (refl, refl, same)) (λ slot. (refl, refl, same)) (λ r. (refl, refl, same))

-- or the disk was full
pub dropped_full : (before after : Seen) (byte : ℕ) (k : Channel) (w : Filling) (full : Bool) → k ≡ Writing w full → full ≡ true → after.content ≡ before.content → PutMeant before after byte k (Writing w full) true
dropped_full before after byte k w true is f same = subst (λ (x : Channel). PutMeant before after byte x (Writing w true) true) (sym is) (refl, refl, same)
dropped_full before after byte k w false is f same = absurd (cc)

-- of the channel as it goes by another name
pub put_as : (a a' b b' : Seen) (byte : ℕ) (x x' y y' : Channel) (s s' : Bool) → a ≡ a' → b ≡ b' → x ≡ x' → y ≡ y' → s ≡ s' → PutMeant a b byte x y s → PutMeant a' b' byte x' y' s'
put_as a a' b b' byte x x' y y' s s' ea eb ex ey es h =
    subst (λ (t : Bool). PutMeant a' b' byte x' y' t) es
    (subst (λ (k : Channel). PutMeant a' b' byte x' k s) ey
    (subst (λ (k : Channel). PutMeant a' b' byte k y s) ex
    (subst (λ (v : Seen). PutMeant a' v byte x y s) eb
    (subst (λ (v : Seen). PutMeant v b byte x y s) ea h))))

-- ---- a file

-- where no file is written none is empty
pub not_empty_file : (k : Channel) → IsNotWritten k → is_file_empty k ≡ false
not_empty_file k none = of_others (λ x. is_file_empty x ≡ false) k none refl (λ l. refl) (λ slot r. refl) (λ slot. refl) (λ r. refl)

pub none_empty : (k : Channel) → is_writing k ≡ false → is_file_empty k ≡ false
none_empty k e = not_empty_file k (λ w full is. let z = sym e ∙ ap is_writing is in absurd (cc))

-- and none is finished
pub finished_none : (before after : Seen) (k : Channel) → IsNotWritten k → after.content ≡ before.content → FinishMeant before after k
finished_none before after k none same = of_others (FinishMeant before after) k none same (λ l. same) (λ slot r. same) (λ slot. same) (λ r. same)

where_true : (P Q : Type 0) (b : Bool) → b ≡ true → P → MatchBool b P Q
where_true P Q true is p = p
where_true P Q false is p = absurd (cc)

where_false : (P Q : Type 0) (b : Bool) → b ≡ false → Q → MatchBool b P Q
where_false P Q true is q = absurd (cc)
where_false P Q false is q = q

-- a new file, or one that was appended to
pub finished_plain : (before after : Seen) (k : Channel) (w : Filling) (full : Bool) → k ≡ Writing w full → w.replaces ≡ false → FinishesLed before after w → FinishMeant before after k
finished_plain before after k w full is plain h = subst (FinishMeant before after) (sym is) (where_false _ _ w.replaces plain h)

-- a replacement, on a full disk
pub finished_given : (before after : Seen) (k : Channel) (w : Filling) (full : Bool) → k ≡ Writing w full → w.replaces ≡ true → full ≡ true → GivesUpLed before.content after.content w.chain → FinishMeant before after k
finished_given before after k w full is replaces f h = subst (FinishMeant before after) (sym is) (where_true _ _ w.replaces replaces (where_true _ _ full f h))

-- or not
pub finished_replaced : (before after : Seen) (k : Channel) (w : Filling) (full : Bool) → k ≡ Writing w full → w.replaces ≡ true → full ≡ false → ReplacesLed before after w → FinishMeant before after k
finished_replaced before after k w full is replaces f h = subst (FinishMeant before after) (sym is) (where_true _ _ w.replaces replaces (where_false _ _ full f h))

-- of the channel as it goes by another name
pub finish_as : (a a' b b' : Seen) (x x' : Channel) → a ≡ a' → b ≡ b' → x ≡ x' → FinishMeant a b x → FinishMeant a' b' x'
finish_as a a' b b' x x' ea eb ex h =
    subst (FinishMeant a' b') ex (subst (λ (v : Seen). FinishMeant a' v x) eb (subst (λ (v : Seen). FinishMeant v b x) ea h))

-- ---- what is reported

pub fault_told : {M A : Type 0} (seen : M → Seen) (old new : Kept M) (before after : M) (r : Result A Trouble) (t : Trouble) (s : Status) → before ≡ old.medium → new.medium ≡ after
    → r ≡ Err t → s ≡ trouble_status t → new.told ≡ record { status = s; told = 0 } → KeepsElse r (seen before) (seen after) → ReportsFault seen old new
fault_told {M} {A} seen old new before after r t s from to refuses is told kept = (
  t,
  told ∙ ap (λ (x : Status). record { status = x; told = 0 }) is,
  subst (λ (v : M). IsGrounded (seen old.medium) (seen v) t) (sym to)
      (subst (λ (v : M). IsGrounded (seen v) (seen after) t) from (subst (λ (x : Result A Trouble). IfErr x (IsGrounded (seen before) (seen after))) refuses kept.shown)),
)

-- a test that the code makes
pub tested : (P Q : Type 0) (b test : Bool) → b ≡ test → b ≡ true → P → MatchBool test P Q
tested P Q b test is t p = where_true P Q test (sym is ∙ t) p

pub not_tested : (P Q : Type 0) (b test : Bool) → b ≡ test → b ≡ false → Q → MatchBool test P Q
not_tested P Q b test is f q = where_false P Q test (sym is ∙ f) q

-- what comes after it reports nothing, and leaves the medium
pub finished_to : {M : Type 0} (seen : M → Seen) (ch : ℕ) (old mid new : Kept M) → new.medium ≡ mid.medium → new.told ≡ mid.told → FileWasFinished seen ch old mid → FileWasFinished seen ch old new
finished_to {M} seen ch old mid new medium told (inl h) =
    inl (told ∙ h.0, subst (λ (v : M). FinishMeant (seen old.medium) (seen v) (slice_index_or old.channels ch Closed)) (sym medium) h.1)
finished_to {M} seen ch old mid new medium told (inr h) = inr (h.0, told ∙ h.1, subst (λ (v : M). IsGrounded (seen old.medium) (seen v) h.0) (sym medium) h.2)
