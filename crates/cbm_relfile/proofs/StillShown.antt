-- What was met before a record was written is shown after it: only sectors that read were written.
use Rattle.std.proofs.Common.{◌≡◌, ◌≢◌, ℕ, List, Result, Ok, Err, IfErr, ap, sym, ◌∙◌, inl, inr}
use Rattle.cbm_medium.specs.Place.{Place}
use Rattle.cbm_medium.specs.Content.{Content}
use Rattle.cbm_medium.specs.Links.{link}
use Rattle.cbm_medium.specs.Met.{IsMetFrom, MeetsTrouble, place_of}
use Rattle.cbm_medium.specs.Seen.{Seen, ShowsGround}
use Rattle.cbm_medium.specs.declared.fault.Trouble.{Trouble}
use Rattle.cbm_medium.proofs.Places.{written_elsewhere}
use Rattle.cbm_relfile.specs.Records.{IsRewritten, front_written}

-- a sector that reads is another one than one that doesn't
apart : (c : Content) (p q : Place) (bytes : List ℕ) (code : ℕ) → c p ≡ Ok bytes → c q ≡ Err code → p ≢ q
apart c p q bytes code reads fault same = let no = sym reads ∙ ap c same ∙ fault in absurd (cc)

still_met : (tracks : ℕ) (starts : Place → Type 0) (old new : Seen) (at : Place) (sector : List ℕ) (place : ℕ) (bytes : List ℕ) (t : Trouble) → old.content at ≡ Ok sector → IsRewritten old.content new.content at sector place bytes → IsMetFrom tracks old.content starts t → ShowsGround new t
still_met tracks starts old new at sector place bytes t reads w h = elim h.1 [
  | inl off ↦ inl (inl off.0)
  | inr on ↦ inr (inl (elim w [
    | inl one ↦ ap (λ (c : Content). c (place_of t)) one.1 ∙ written_elsewhere old.content at (place_of t) _ (apart old.content at (place_of t) sector t.code reads on.1) ∙ on.1
    | inr two ↦ ap (λ (c : Content). c (place_of t)) two.4
        ∙ written_elsewhere (front_written old.content at sector place bytes) (link sector) (place_of t) _ (apart old.content (link sector) (place_of t) two.0 t.code two.2 on.1)
        ∙ written_elsewhere old.content at (place_of t) _ (apart old.content at (place_of t) sector t.code reads on.1) ∙ on.1
  ]))
]

pub still_shown : {A : Type 0} (r : Result A Trouble) (tracks : ℕ) (starts : Place → Type 0) (old new : Seen) (at : Place) (sector : List ℕ) (place : ℕ) (bytes : List ℕ) → old.content at ≡ Ok sector → IsRewritten old.content new.content at sector place bytes → MeetsTrouble tracks old.content starts r → IfErr r (ShowsGround new)
still_shown (Ok a) tracks starts old new at sector place bytes reads w h = tt
still_shown (Err t) tracks starts old new at sector place bytes reads w h = still_met tracks starts old new at sector place bytes t reads w h.shown
