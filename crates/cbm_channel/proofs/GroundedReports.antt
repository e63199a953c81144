-- Where a status comes from, also where a call may have written.
use Rattle.std.proofs.Common.{◌≡◌, ◌⊎◌, ℕ, ◌≤◌, Bool, true, false, List, Option, None, Some, Result, Ok, Err, ap, sym, refl, subst, ◌∙◌, inl, inr, arith}
use Rattle.std.specs.Prelude.{IfErr, if◌then◌else◌}
use Rattle.cbm_medium.specs.declared.fault.Trouble.{Trouble}
use Rattle.cbm_medium.specs.Place.{Place}
use Rattle.cbm_medium.specs.Content.{Cell, header_fault, is_header_fault, refusal}
use Rattle.cbm_medium.specs.Met.{IsMetFrom, place_of}
use Rattle.cbm_medium.specs.Seen.{Seen, HasFailed, IsGrounded, ShowsGround, KeepsReadable}
use Rattle.cbm_medium.proofs.Shown.{cut_shown, met_shown}
use Rattle.cbm_bam.specs.Map.{geometry_of}
use Rattle.cbm_directory.proofs.Codes.{directory_shown}
use Rattle.cbm_volume.specs.NewDisks.{OnlyNew}
use Rattle.cbm_volume.proofs.formatted.NewDisks.{new_keeps}
use Rattle.cbm_volume.specs.RecordFaults.{IsMislisted, IsOfEntry}
use Rattle.cbm_machine.specs.declared.status.Status.{Status}
use Rattle.cbm_machine.specs.declared.code.Code.TheVariants.{WriteProtected}
use Rattle.cbm_machine.specs.Codes.{code_number}
use Rattle.cbm_machine.specs.Statuses.{plain, trouble_status}
use Rattle.cbm_channel.specs.ChannelCalls.{KeepsElse}
use Rattle.cbm_channel.specs.Standing.{Kept}
use Rattle.cbm_channel.specs.Going.{KeepsMedium, IsOutsideKept}
use Rattle.cbm_channel.specs.Grounds.{HasGround, HasTold, HidesRecords, KeepsGrounded, ShowsTrouble, TellsGrounded, is_fault_number}

-- ---- what a medium shows

pub trouble_shown : (tracks : ℕ) (s : Seen) (t : Trouble) → ShowsTrouble tracks s.content t → ShowsGround s t
trouble_shown tracks s t (inl e) = inr (inl e)
trouble_shown tracks s t (inr (inl e)) = directory_shown tracks s t e
trouble_shown tracks s t (inr (inr (inl (entry, there, e)))) = cut_shown tracks s _ _ t e
trouble_shown tracks s t (inr (inr (inr (inl (entry, there, m))))) = inl (inr m.code)
trouble_shown tracks s t (inr (inr (inr (inr (slot, (entry, there, m)))))) = met_shown tracks (IsOfEntry tracks s.content entry) s t m

-- why the records of an entry can't be opened
pub opening_shown : (tracks : ℕ) (starts : Place → Type 0) (s : Seen) (e : List ℕ) (t : Trouble) → IsMetFrom tracks s.content starts t ⊎ IsMislisted tracks s.content e t → ShowsGround s t
opening_shown tracks starts s e t (inl m) = met_shown tracks starts s t m
opening_shown tracks starts s e t (inr m) = inl (inr m.code)

-- why a record can't be read
pub hidden_shown : (s : Seen) (t : Trouble) → HidesRecords s t → ShowsGround s t
hidden_shown s t (slot, inl e) = directory_shown (geometry_of s.tracks s.content) s t e
hidden_shown s t (slot, inr (entry, there, m)) = let tracks = geometry_of s.tracks s.content in met_shown tracks (IsOfEntry tracks s.content entry) s t m

-- the same was shown before a call that made no sector unreadable
pub shown_before : (old new : Seen) (t : Trouble) → new.protected ≡ old.protected → KeepsReadable old.content new.content → ShowsGround new t → ShowsGround old t
shown_before old new t same r (inl link) = inl link
shown_before old new t same r (inr (inl fault)) = inr (inl (r.faults (place_of t) t.code fault))
shown_before old new t same r (inr (inr refuses)) = inr (by_protection old.protected (subst (λ (b : Bool). refusal b (new.content (place_of t)) ≡ Some t.code) same refuses))
  where
    is_fault : (cell : Cell) → header_fault cell ≡ Some t.code → cell ≡ Err t.code
    is_fault (Ok bytes) e = absurd (cc)
    is_fault (Err code) e = ap told_by (by_code (is_header_fault code) e)
      where
        chosen : Bool → Option ℕ
        chosen b = if b then Some code else None

        told_by : ℕ → Cell
        told_by n = Err n

        by_code : (b : Bool) → chosen b ≡ Some t.code → code ≡ t.code
        by_code true e = cc
        by_code false e = absurd (cc)

    by_protection : (b : Bool) → refusal b (new.content (place_of t)) ≡ Some t.code → (old.content (place_of t) ≡ Err t.code) ⊎ (refusal b (old.content (place_of t)) ≡ Some t.code)
    by_protection true e = inr e
    by_protection false e = inl (r.faults (place_of t) t.code (is_fault (new.content (place_of t)) e))

grounded_as_before : (old new : Seen) (t : Trouble) → new.protected ≡ old.protected → KeepsReadable old.content new.content → IsGrounded old new t → ShowsGround old t ⊎ HasFailed old new
grounded_as_before old new t same r (inl shows) = inl (shown_before old new t same r shows)
grounded_as_before old new t same r (inr failed) = inr failed

-- NEW, with an id and without one
new_readable : (r : Result (Unit {0}) Trouble) (o : Option (List ℕ)) (old new : Seen) → OnlyNew r o old new → KeepsReadable old.content new.content
new_readable r None old new h = h.readable
new_readable r (Some id) old new (inl h) = record { faults = λ p code fault. let no = h.readable.faults p code fault in absurd (cc) }
new_readable r (Some id) old new (inr (err, h)) = h.readable

-- the bytes outside the sectors stay, or are those of a format
new_outside : (r : Result (Unit {0}) Trouble) (o : Option (List ℕ)) (old new : Seen) → OnlyNew r o old new → IsOutsideKept true old.outside new.outside
new_outside r None old new h = inl h.outside
new_outside r (Some id) old new (inl h) = inr h.outside
new_outside r (Some id) old new (inr (err, h)) = inl h.outside

pub new_medium : (r : Result (Unit {0}) Trouble) (o : Option (List ℕ)) (old new : Seen) → OnlyNew r o old new → KeepsMedium true old new
new_medium r o old new h = let k = new_keeps r o old new h in record { tracks = k.0; protected = k.1; counted = k.2; readable = new_readable r o old new h; outside = new_outside r o old new h }

-- ---- a report

module _ {M : Type 0} (seen : M → Seen) (old new : Kept M) where
  module _ (before after : M) (was : before ≡ old.medium) (is : new.medium ≡ after) {A : Type 0} (r : Result A Trouble) (t : Trouble) (err : r ≡ Err t) where
    -- what a call answers that may have written
    pub answer_grounded_by : (seen after).protected ≡ (seen before).protected → KeepsReadable (seen before).content (seen after).content → IfErr r (IsGrounded (seen before) (seen after)) → new.told.status ≡ trouble_status t → TellsGrounded seen old new
    answer_grounded_by same readable grounds told =
        let ground = grounded_as_before (seen before) (seen after) t same readable (subst (λ (x : Result A Trouble). IfErr x (IsGrounded (seen before) (seen after))) err grounds) in
        inr (t, told, subst (λ (m : M). ShowsGround (seen m) t ⊎ HasFailed (seen m) (seen new.medium)) was (subst (λ (m : M). ShowsGround (seen before) t ⊎ HasFailed (seen before) (seen m)) (sym is) ground))

    pub answer_grounded : KeepsElse r (seen before) (seen after) → new.told.status ≡ trouble_status t → TellsGrounded seen old new
    answer_grounded kept told = answer_grounded_by kept.protected kept.readable kept.shown told

  -- what the content shows
  ground_grounded : HasGround seen old.medium new.told.status → TellsGrounded seen old new
  ground_grounded (inl e) = inl e
  ground_grounded (inr (inl (status, protected))) = inr (record { code = 26; track = 0; sector = 0 }, status, inl (inr (inr (refuses (seen old.medium).protected protected))))
    where
      refuses : (b : Bool) → b ≡ true → refusal b ((seen old.medium).content (record { track = 0; sector = 0 })) ≡ Some 26
      refuses true e = refl
      refuses false e = absurd (cc)
  ground_grounded (inr (inr (t, status, shows))) = inr (t, status, inl (trouble_shown _ (seen old.medium) t shows))

  -- protection
  pub protected_grounded : new.told.status ≡ plain WriteProtected → (seen old.medium).protected ≡ true → TellsGrounded seen old new
  protected_grounded told protected = ground_grounded (inr (inl (told, protected)))

  -- a refusal of a call that writes nothing
  pub refusal_grounded : (status : Status) → HasGround seen old.medium status → new.told.status ≡ status → TellsGrounded seen old new
  refusal_grounded status h told = ground_grounded (subst (HasGround seen old.medium) (sym told) h)

  pub told_grounded : HasTold seen old new → TellsGrounded seen old new
  told_grounded h = ground_grounded h

-- ---- reports one after another

-- a step before
pub grounded_after : {M : Type 0} (seen : M → Seen) (old mid new : Kept M) → KeepsMedium false (seen old.medium) (seen mid.medium) → TellsGrounded seen mid new → TellsGrounded seen old new
grounded_after seen old mid new k (inl e) = inl e
grounded_after seen old mid new k (inr (t, told, inl shows)) = inr (t, told, inl (shown_before (seen old.medium) (seen mid.medium) t k.protected k.readable shows))
grounded_after seen old mid new k (inr (t, told, inr failed)) = inr (t, told, inr (omega (arith, k.counted, failed)))

-- the drive's text alone is another before or after
pub grounded_from : {M : Type 0} (seen : M → Seen) (old first new : Kept M) → first.medium ≡ old.medium → first.told ≡ old.told → KeepsGrounded seen first new → KeepsGrounded seen old new
grounded_from seen old first new same told (inl e) = inl (e ∙ told)
grounded_from seen old first new same told (inr (inl e)) = inr (inl e)
grounded_from {M} seen old first new same told (inr (inr (t, status, g))) = inr (inr (t, status, subst (λ (m : M). ShowsGround (seen m) t ⊎ HasFailed (seen m) (seen new.medium)) same g))

-- a step after that leaves what is reported
reported_still : {M : Type 0} (seen : M → Seen) (old mid new : Kept M) → new.told ≡ mid.told → (seen mid.medium).failures ≤ (seen new.medium).failures → KeepsGrounded seen old mid → KeepsGrounded seen old new
reported_still seen old mid new told more (inl e) = inl (told ∙ e)
reported_still seen old mid new told more (inr (inl e)) = inr (inl (ap (λ x. is_fault_number (code_number x.status.code)) told ∙ e))
reported_still seen old mid new told more (inr (inr (t, status, inl shows))) = inr (inr (t, ap (λ x. x.status) told ∙ status, inl shows))
reported_still seen old mid new told more (inr (inr (t, status, inr failed))) = inr (inr (t, ap (λ x. x.status) told ∙ status, inr (omega (arith, more, failed))))

-- two steps
pub grounded_then : {M : Type 0} (seen : M → Seen) (old mid new : Kept M) → KeepsMedium false (seen old.medium) (seen mid.medium) → (seen mid.medium).failures ≤ (seen new.medium).failures → KeepsGrounded seen old mid → KeepsGrounded seen mid new → KeepsGrounded seen old new
grounded_then seen old mid new k more g (inr anew) = inr (grounded_after seen old mid new k anew)
grounded_then seen old mid new k more g (inl told) = reported_still seen old mid new told more g

-- the drive's text is dropped
pub grounded_to : {M : Type 0} (seen : M → Seen) (old last new : Kept M) → new.medium ≡ last.medium → new.told ≡ last.told → KeepsGrounded seen old last → KeepsGrounded seen old new
grounded_to {M} seen old last new same told g = reported_still seen old last new told (omega (arith, ap (λ (m : M). (seen m).failures) same)) g
