-- What a channel sends, byte by byte.
use Rattle.std.proofs.Common.{◌≡◌, ℕ, suc, List, [], ◌∷◌, ◌++◌, Some, None, Bool, true, false, refl, ap, sym, ◌∙◌, subst}
use Rattle.cbm_machine.specs.Machines.{Machine}
use Rattle.cbm_machine.specs.Talking.{peek, taken, after_talk}
use Rattle.cbm_talk.specs.Talks.{TalkSaid, says, talked}
use Rattle.cbm_talk.proofs.Spoken.{says_from, says-suc}

-- a machine stands, from which what is said is the whole
pub record Saying (now : Machine → Type 0) (whole : TalkSaid) (left ch : ℕ) (so_far : List ℕ) : Type 0 where
  pub machine : Machine
  pub stands : now machine
  pub same : whole ≡ says left ch so_far machine

-- the same for each machine that stood at the beginning
abbrev pub Sends : (Machine → Type 0) → (Machine → Type 0) → ℕ → ℕ → ℕ → List ℕ → Type 0
Sends stood now most left ch so_far = (m : Machine) → stood m → Saying now (talked ch most m) left ch so_far

pub sends-start : (stood now : Machine → Type 0) (most left ch : ℕ) → ((m : Machine) → stood m → now (after_talk ch m)) → left ≡ most → Sends stood now most left ch []
sends-start stood now most left ch talks e m s = record { machine = after_talk ch m; stands = talks m s; same = subst (λ n. talked ch most m ≡ says n ch [] (after_talk ch m)) (sym e) refl }

-- a byte that isn't the last
pub sends-more : (stood now next : Machine → Type 0) (most left less ch b : ℕ) (last : Bool) (so_far items : List ℕ) → Sends stood now most left ch so_far
    → ((m : Machine) → now m → Some (b, last) ≡ peek ch m) → last ≡ false → ((m : Machine) → now m → next (taken ch m)) → items ≡ so_far ++ b ∷ [] → left ≡ suc less
    → Sends stood next most less ch items
sends-more stood now next most left less ch b last so_far items g peeks more takes i l m s =
    let o = g m s in
    let p : peek ch o.machine ≡ Some (b, false) = sym (peeks o.machine o.stands) ∙ ap (λ v. Some (b, v)) more in
    record {
      machine = taken ch o.machine;
      stands = takes o.machine o.stands;
      same = o.same ∙ (ap (λ n. says n ch so_far o.machine) l ∙ (says-suc less ch so_far o.machine
          ∙ (ap (λ q. says_from q less ch so_far o.machine) p ∙ ap (λ t. says less ch t (taken ch o.machine)) (sym i))));
    }

-- THE WHOLE IS SAID: these are its bytes, and its machine stands
pub record Ended (now : Machine → Type 0) (items : List ℕ) (whole : TalkSaid) : Type 0 where
  pub bytes : items ≡ whole.bytes
  pub stands : now whole.machine

-- where it comes to this
ended : (now : Machine → Type 0) (items : List ℕ) (whole told : TalkSaid) → whole ≡ told → items ≡ told.bytes → now told.machine → Ended now items whole
ended now items whole told e b s = record { bytes = b ∙ sym (ap (λ (t : TalkSaid). t.bytes) e); stands = subst (λ (t : TalkSaid). now t.machine) (sym e) s }

-- the last byte
pub sends-last : (stood now next : Machine → Type 0) (most left less ch b : ℕ) (last : Bool) (so_far items : List ℕ) → Sends stood now most left ch so_far
    → ((m : Machine) → now m → Some (b, last) ≡ peek ch m) → last ≡ true → ((m : Machine) → now m → next (taken ch m)) → items ≡ so_far ++ b ∷ [] → left ≡ suc less
    → (m : Machine) → stood m → Ended next items (talked ch most m)
sends-last stood now next most left less ch b last so_far items g peeks end takes i l m s =
    let o = g m s in
    let p : peek ch o.machine ≡ Some (b, true) = sym (peeks o.machine o.stands) ∙ ap (λ v. Some (b, v)) end in
    ended next items (talked ch most m) (record { bytes = so_far ++ b ∷ []; marked = true; machine = taken ch o.machine })
    (o.same ∙ (ap (λ n. says n ch so_far o.machine) l ∙ (says-suc less ch so_far o.machine ∙ ap (λ q. says_from q less ch so_far o.machine) p))) i (takes o.machine o.stands)

-- no byte waits
pub sends-none : (stood now : Machine → Type 0) (most left less ch : ℕ) (so_far : List ℕ) → Sends stood now most left ch so_far
    → ((m : Machine) → now m → None ≡ peek ch m) → left ≡ suc less → (m : Machine) → stood m → Ended now so_far (talked ch most m)
sends-none stood now most left less ch so_far g peeks l m s =
    let o = g m s in
    ended now so_far (talked ch most m) (record { bytes = so_far; marked = false; machine = o.machine })
    (o.same ∙ (ap (λ n. says n ch so_far o.machine) l ∙ (says-suc less ch so_far o.machine ∙ ap (λ q. says_from q less ch so_far o.machine) (sym (peeks o.machine o.stands))))) refl o.stands

-- no more bytes are asked for
pub sends-over : (stood now : Machine → Type 0) (most left ch : ℕ) (so_far : List ℕ) → Sends stood now most left ch so_far → left ≡ 0
    → (m : Machine) → stood m → Ended now so_far (talked ch most m)
sends-over stood now most left ch so_far g l m s =
    let o = g m s in
    ended now so_far (talked ch most m) (record { bytes = so_far; marked = false; machine = o.machine }) (o.same ∙ ap (λ n. says n ch so_far o.machine) l) refl o.stands
