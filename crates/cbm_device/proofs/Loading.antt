-- A drive that is read from bytes has the medium that it was read with.
use Rattle.std.proofs.Common.{◌≡◌, ℕ, Bool, true, false, List, Option, Some, None, refl, subst, sym}
use Rattle.std.specs.Prelude.{IfSome, if◌then◌else◌}
use Rattle.cbm_saved.specs.Steps.{◌>>=◌}
use Rattle.cbm_iec.specs.declared.port.Port.{Port}
use Rattle.cbm_channel.specs.Standing.{Kept}
use Rattle.cbm_channel.specs.Loaded.{told_at, gathered_at, channels_at, dos_at}
use Rattle.cbm_drive.specs.Desks.{Desk}
use Rattle.cbm_drive.specs.Seats.{Seated}
use Rattle.cbm_drive.specs.Loaded.{port_at, addressed_at, desk_at, seated_of, seat_at}

-- a step of reading
stepped : {A B : Type 0} (Q : A → Type 0) (P : B → Type 0) (o : Option A) (f : A → Option B) → IfSome o Q → ((x : A) → Q x → IfSome (f x) P) → IfSome (o >>= f) P
stepped Q P None f q h = tt
stepped Q P (Some x) f q h = h x q

any : {A : Type 0} (o : Option A) → IfSome o (λ _. Unit {0})
any None = tt
any (Some x) = tt

chosen_if : {A : Type 0} (b : Bool) (x : A) (P : A → Type 0) → P x → IfSome (if b then Some x else None) P
chosen_if true x P h = h
chosen_if false x P h = tt

module _ {M : Type 0} (m : M) (most : ℕ) where
  dos_medium : (bytes : List ℕ) → IfSome (dos_at m most bytes) (λ x. x.0.medium ≡ m)
  dos_medium bytes =
      stepped (λ _. Unit {0}) (λ x. x.0.medium ≡ m) (told_at bytes) _ (any _) (λ told _.
      stepped (λ _. Unit {0}) (λ x. x.0.medium ≡ m) (gathered_at told.1) _ (any _) (λ text _.
      stepped (λ _. Unit {0}) (λ x. x.0.medium ≡ m) (channels_at most 15 text.1) _ (any _) (λ channels _. refl)))

  desk_medium : (bytes : List ℕ) → IfSome (desk_at m most bytes) (λ x. x.0.dos.medium ≡ m)
  desk_medium bytes =
      stepped (λ _. Unit {0}) (λ x. x.0.dos.medium ≡ m) (addressed_at bytes) _ (any _) (λ addressed _.
      stepped (λ x. x.0.medium ≡ m) (λ x. x.0.dos.medium ≡ m) (dos_at m most addressed.1) _ (dos_medium addressed.1) (λ dos h. h))

  seated_medium : (port : Port) (desk : Desk (Kept M)) → desk.dos.medium ≡ m → IfSome (seated_of port desk) (λ s. s.machine.dos.medium ≡ m)
  seated_medium port desk h = chosen_if _ _ (λ (s : Seated (Desk (Kept M))). s.machine.dos.medium ≡ m) h

  seat_medium : (bytes : List ℕ) → IfSome (seat_at m most bytes) (λ x. x.0.machine.dos.medium ≡ m)
  seat_medium bytes =
      stepped (λ _. Unit {0}) (λ x. x.0.machine.dos.medium ≡ m) (port_at bytes) _ (any _) (λ port _.
      stepped (λ x. x.0.dos.medium ≡ m) (λ x. x.0.machine.dos.medium ≡ m) (desk_at m most port.1) _ (desk_medium port.1) (λ desk h.
      stepped (λ s. s.machine.dos.medium ≡ m) (λ x. x.0.machine.dos.medium ≡ m) (seated_of port.0 desk.0) _ (seated_medium port.0 desk.0 h) (λ seat k. k)))

  pub loaded_medium : (bytes rest : List ℕ) (s : Seated (Desk (Kept M))) → Some (s, rest) ≡ seat_at m most bytes → s.machine.dos.medium ≡ m
  loaded_medium bytes rest s e = subst (λ o. IfSome o (λ x. x.0.machine.dos.medium ≡ m)) (sym e) (seat_medium bytes)
