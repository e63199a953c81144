-- Files that are put one after another: those that were put stand before those that are left.
use Rattle.std.proofs.Common.{◌≡◌, ℕ, ◌+◌, ◌≤◌, ◌<◌, suc, List, [], ◌∷◌, ◌++◌, length, drop, drop-cons, get_or, arith, refl, sym, ap, subst, ◌∙◌, inl, inr, append-nil, append_assoc}
use Rattle.std.specs.Prelude.{Result, Ok, Err, IfOk, IfErr, MatchResult}
use Rattle.std.proofs.lemmas.List.{length-append}
use Rattle.cbm_channel.specs.declared.Status.{Status}
use Rattle.cbm_machine.specs.Codes.{code_number}
use Rattle.cbm_machine.specs.Machines.{Machine}
use Rattle.cbm_image.specs.Images.{kind_of, ImageHolds}
use Rattle.cbm_image.specs.declared.kind.Kind.{Kind}
use Rattle.cbm_shell.specs.Changing.{IsFine}
use Rattle.cbm_device.specs.declared.refusal.DeviceRefusal.{DeviceRefusal}
use Rattle.cbm_device.specs.declared.refusal.DeviceRefusal.TheVariants as why
use Rattle.cbm_device.specs.ImageDisks.{IsOpenRefusal}
use Rattle.cbm_device.specs.Looking.{IsAccepted}
use Rattle.cbm_device.specs.Making.{opened_for, IsRefusedWith, IsUnchanged, IsUnmade}
use Rattle.yellowadze1541.specs.declared.shapes.File.{File}
use Rattle.yellowadze1541.specs.Putting.{after_file, after_files, ArePut, IsStatus, IsRefusedFile, IsFileRefusal, IsUnput}

-- some were put, the others are left
pub record PutSoFar (left whole : List File) (count : ℕ) (stands : Machine → Type 0) (m : Machine) : Type 0 where
  pub before : List File
  pub joined : whole ≡ before ++ left
  pub counted : count ≡ length before
  pub put : ArePut before m
  pub now : stands (after_files before m)

-- none was put yet
pub none_put : (whole : List File) (stands : Machine → Type 0) (m : Machine) → stands m → PutSoFar whole whole 0 stands m
none_put whole stands m h = record { before = []; joined = refl; counted = refl; put = tt; now = h }

after_one_more : (fs : List File) (f : File) (m : Machine) → after_files (fs ++ f ∷ []) m ≡ after_file f (after_files fs m)
after_one_more [] f m = refl
after_one_more (g ∷ fs) f m = after_one_more fs f (after_file g m)

put_one_more : (fs : List File) (f : File) (m : Machine) → ArePut fs m → IsFine (after_file f (after_files fs m)).status → ArePut (fs ++ f ∷ []) m
put_one_more [] f m put fine = (fine, tt)
put_one_more (g ∷ fs) f m put fine = (put.0, put_one_more fs f (after_file g m) put.1 fine)

-- one more was put
pub one_more : (left rest whole : List File) (f : File) (count : ℕ) (stands next : Machine → Type 0) (m : Machine) → left ≡ f ∷ rest → (u : PutSoFar left whole count stands m)
    → IsFine (after_file f (after_files u.before m)).status × next (after_file f (after_files u.before m)) → PutSoFar rest whole (count + 1) next m
one_more left rest whole f count stands next m begins u h =
    let long : length (u.before ++ f ∷ []) ≡ length u.before + 1 = length-append u.before (f ∷ []) in
    record {
      before = u.before ++ f ∷ [];
      joined = u.joined ∙ ap (λ (l : List File). u.before ++ l) begins ∙ sym (append_assoc u.before (f ∷ []) rest);
      counted = ap (λ k. k + 1) u.counted ∙ sym long;
      put = put_one_more u.before f m u.put h.0;
      now = subst next (sym (after_one_more u.before f m)) h.1;
    }

-- the next one is refused
pub next_refused : (left rest whole : List File) (f : File) (count : ℕ) (stands : Machine → Type 0) (m : Machine) (r : DeviceRefusal) → left ≡ f ∷ rest → (u : PutSoFar left whole count stands m)
    → IsRefusedFile (opened_for f.text.now (after_files u.before m)) (after_file f (after_files u.before m)) r → IsFileRefusal whole m count r
next_refused left rest whole f count stands m r begins u h = (
  h.0,
  record {
    before = u.before;
    file = f;
    rest = rest;
    whole = u.joined ∙ ap (λ (l : List File). u.before ++ l) begins;
    counted = u.counted;
    put = u.put;
    refused = h.1;
  },
  h.2,
)

-- none is left
pub all_put : (left whole : List File) (count : ℕ) (stands : Machine → Type 0) (m : Machine) → left ≡ [] → PutSoFar left whole count stands m
    → ArePut whole m × (count ≡ length whole) × stands (after_files whole m)
all_put left whole count stands m none u =
    let same : u.before ≡ whole = sym (u.joined ∙ ap (λ (l : List File). u.before ++ l) none ∙ append-nil u.before) in
    (subst (λ (l : List File). ArePut l m) same u.put, u.counted ∙ ap (λ (l : List File). length l) same, subst (λ (l : List File). stands (after_files l m)) same u.now)

pub next_file : (xs : List File) (x : File) (i : ℕ) → i < length xs → drop i xs ≡ get_or xs i x ∷ drop (i + 1) xs
next_file xs x i h =
    let next : suc i ≡ i + 1 = omega arith in
    drop-cons xs i x h ∙ ap (λ k. get_or xs i x ∷ drop k xs) next

-- the status after a file decides
pub put_or_not : (opened ended : Machine) (stands : Machine → Type 0) (r : Result (Unit {0}) DeviceRefusal) (s : Status) → stands ended → s ≡ ended.status
    → MatchResult r (λ _. IsFine s) (λ q. (q ≡ why.Status (code_number s.code)) × (20 ≤ code_number s.code)) → MatchResult r (λ _. IsFine ended.status × stands ended) (IsRefusedFile opened ended)
put_or_not opened ended stands (Ok _) s now e h = (subst IsFine e h, now)
put_or_not opened ended stands (Err q) s now e h = (s, record { told = inr e; error = h.1 }, h.0)

-- one of the files is refused, or the image isn't opened
pub unput_file : (image : List ℕ) (files : List File) (m : Machine) (count : ℕ) (r : DeviceRefusal) → IsFileRefusal files m count r → IsUnput image files m count r
unput_file image files m count r (s, at, e) = subst (IsUnput image files m count) (sym e) (s, at, refl)

pub unput_open : (image : List ℕ) (files : List File) (m : Machine) (count : ℕ) (r : DeviceRefusal) → IsOpenRefusal image r → IsUnput image files m count r
unput_open image files m count why.Memory h = tt
unput_open image files m count why.NoImage h = h
unput_open image files m count why.Invalid h = absurd h
unput_open image files m count why.NoRoom h = absurd h
unput_open image files m count why.Absent h = absurd h
unput_open image files m count why.Unsound h = absurd h
unput_open image files m count why.NoDrive h = absurd h
unput_open image files m count (why.Status code) h = absurd h

-- a sound disk isn't changed by what the drive refuses
pub unchanged_status : (image : List ℕ) (r : DeviceRefusal) → IsAccepted image → IsStatus r → IsUnchanged image r
unchanged_status image r is (code, e) = subst (IsUnchanged image) (sym e) (inl is)

-- the disk with all files is saved, or memory runs out
pub files_saved : {A : Type 0} (items : A → List ℕ) (r : Result A DeviceRefusal) (image : List ℕ) (kind : Kind) (files : List File) (m : Machine) (count : ℕ) → kind ≡ kind_of image
    → ArePut files m × (count ≡ length files) → IfOk r (λ v. ImageHolds kind (items v) (after_files files m).disk) → IfErr r (λ q. q ≡ why.Memory)
    → MatchResult r (λ v. ArePut files m × (count ≡ length files) × ImageHolds (kind_of image) (items v) (after_files files m).disk) (IsUnput image files m count)
files_saved items (Ok v) image kind files m count same h ok err = (h.0, h.1, subst (λ k. ImageHolds k (items v) (after_files files m).disk) same ok)
files_saved items (Err q) image kind files m count same h ok err = subst (IsUnput image files m count) (sym err) tt

first_of : (f : File) (before : List File) (g : File) (rest : List File) → f ∷ [] ≡ before ++ g ∷ rest → (before ≡ []) × (g ≡ f)
first_of f [] g rest e = (refl, sym (ap (λ (l : List File). get_or l 0 g) e))
first_of f (b ∷ []) g rest e = absurd (let long = ap (λ (l : List File). length l) e in omega (arith, long))
first_of f (b ∷ c ∷ bs) g rest e = absurd (let long = ap (λ (l : List File). length l) e in omega (arith, long))

-- one file alone is refused
pub one_refused : (image : List ℕ) (f : File) (m : Machine) (count : ℕ) (r : DeviceRefusal) → IsUnput image (f ∷ []) m count r → IsUnmade image (opened_for f.text.now m) (after_file f m) r
one_refused image f m count (why.Status code) (s, at, e) =
    let same = first_of f at.before at.file at.rest at.whole in
    let here : IsRefusedWith (opened_for at.file.text.now m) (after_file at.file m) s =
    subst (λ (l : List File). IsRefusedWith (opened_for at.file.text.now (after_files l m)) (after_file at.file (after_files l m)) s) same.0 at.refused in
    (s, subst (λ (g : File). IsRefusedWith (opened_for g.text.now m) (after_file g m) s) same.1 here, e)
one_refused image f m count why.Memory h = tt
one_refused image f m count why.NoImage h = h
one_refused image f m count why.Invalid h = absurd h
one_refused image f m count why.NoRoom h = absurd h
one_refused image f m count why.Absent h = absurd h
one_refused image f m count why.Unsound h = absurd h
one_refused image f m count why.NoDrive h = absurd h

-- one file alone is put, or not
pub one_put : {A : Type 0} (items : A → List ℕ) (r : Result A DeviceRefusal) (image : List ℕ) (f : File) (m : Machine) (count : ℕ)
    → MatchResult r (λ v. ArePut (f ∷ []) m × (count ≡ 1) × ImageHolds (kind_of image) (items v) (after_file f m).disk) (IsUnput image (f ∷ []) m count)
    → MatchResult r (λ v. IsFine (after_file f m).status × ImageHolds (kind_of image) (items v) (after_file f m).disk) (IsUnmade image (opened_for f.text.now m) (after_file f m))
one_put items (Ok v) image f m count h = (h.0.0, h.2)
one_put items (Err r) image f m count h = one_refused image f m count r h
