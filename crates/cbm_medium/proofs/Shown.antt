-- What a link or a walk along links meets is shown by the medium.
use Rattle.std.proofs.Common.{◌≡◌, ℕ, ap, inl, inr, ◌∙◌, Some}
use Rattle.cbm_medium.specs.Place.{Place}
use Rattle.cbm_medium.specs.Links.{IsCut, follow}
use Rattle.cbm_medium.specs.Met.{IsMetFrom, place_of}
use Rattle.cbm_medium.specs.Seen.{Seen, ShowsGround}
use Rattle.cbm_medium.specs.declared.fault.Trouble.{Trouble}
use Rattle.cbm_medium.proofs.Walks.{followed_cut}

-- a link
pub met_shown : (tracks : ℕ) (starts : Place → Type 0) (s : Seen) (t : Trouble) → IsMetFrom tracks s.content starts t → ShowsGround s t
met_shown tracks starts s t h = elim h.1 [ inl off ↦ inl (inl off.0) | inr on ↦ inr (inl on.1) ]

-- a walk
pub cut_shown : (tracks : ℕ) (s : Seen) (n : ℕ) (a : Place) (t : Trouble) → (follow tracks s.content n a).trouble ≡ Some t → ShowsGround s t
cut_shown tracks s n a t e =
    let k : IsCut tracks s.content n a (follow tracks s.content n a).blocks t = followed_cut tracks s.content n a (follow tracks s.content n a).blocks t (λ i. record { blocks = (follow tracks s.content n a).blocks; trouble = e i }) in
    elim k.cause [
      | inl off ↦ inl (inl off.0)
      | inr on ↦ elim on [ inl many ↦ inl (inr many.0) | inr fault ↦ inr (inl (ap (λ (u : Trouble). s.content (place_of u)) k.named ∙ fault.2)) ]
    ]
