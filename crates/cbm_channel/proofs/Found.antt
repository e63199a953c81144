-- What a search through the directory's entries finds is what the machine finds among the disk's files.
use Rattle.std.proofs.Common.{◌≡◌, ℕ, suc, ◌+◌, ◌-◌, ◌≤◌, Bool, true, false, List, [], ◌∷◌, length, refl, sym, ap, ◌∙◌, subst, arith}
use Rattle.std.specs.Prelude.{◌==◌, ◌%◌, ◌&&◌, not, nat_lt, filter, Option, Some, None, is_some, slice_get, slice_index_or, if◌then◌else◌, Result, Ok, Err}
use Rattle.std.specs.List.{AllZip}
use Rattle.std.proofs.lemmas.Bool.Decides.{nat_tests}
use Rattle.cbm_file.specs.declared.file_type.FileType.{FileType}
use Rattle.cbm_file.specs.Types.{type_with}
use Rattle.cbm_file.specs.Files.{File, Disk, files, files_from}
use Rattle.cbm_command.specs.Names.{is_match}
use Rattle.cbm_directory.specs.Entries.{type_byte, name_in}
use Rattle.cbm_medium.specs.Content.{Content}
use Rattle.cbm_bam.specs.Map.{geometry_of}
use Rattle.cbm_directory.specs.Slots.{Listed, Finds, first_from, directory_of}
use Rattle.cbm_volume.specs.Holding.{EntrySays, SlotSays, TellsOf}
use Rattle.cbm_machine.specs.declared.code.Code.{Code}
use Rattle.cbm_machine.specs.declared.code.Code.TheVariants.{WrongType, FileNotFound}
use Rattle.cbm_machine.specs.declared.status.Status.{Status}
use Rattle.cbm_machine.specs.Statuses.{plain}
use Rattle.cbm_channel.specs.Planned.{FoundAs}
use Rattle.cbm_machine.specs.Finding.{of_kind, is_there, first_or, found}
use Rattle.cbm_channel.specs.Sought.{is_meant, is_sought}
use Rattle.cbm_channel.proofs.Kept.{number_of, bytes_of}

-- the type that an entry tells is the one that is meant where the file's is
meant_kind : (k : Option FileType) (f : File) → is_meant k (Some f.kind) ≡ of_kind k f
meant_kind None f = refl
meant_kind (Some x) f = refl

pub sought_file : (p : List ℕ) (k : Option FileType) (f : File) (e : List ℕ) → EntrySays f e → is_sought p k e ≡ (is_match p f.name && of_kind k f)
sought_file p k f e s = (λ i. not (s.used i) && is_match p (s.name i) && is_meant k (s.kind i)) ∙ ap (λ b. is_match p f.name && b) (meant_kind k f)

pub sought_empty : (p : List ℕ) (k : Option FileType) (e : List ℕ) → (type_byte e == 0) ≡ true → is_sought p k e ≡ false
sought_empty p k e h = λ i. not (h i) && is_match p (name_in e) && is_meant k (type_with (type_byte e % 16))

module _ (p : List ℕ) (k : Option FileType) (code : Code) where
  -- the first of these that matches and is of the type
  abbrev pub chosen : List (ℕ × File) → Result (ℕ × File) Code
  chosen xs = first_or (filter (λ (q : ℕ × File). of_kind k q.1) (filter (λ (q : ℕ × File). is_match p q.1.name) xs)) code

  skipped : (n : ℕ) (f : File) (xs : List (ℕ × File)) (a b : Bool) → is_match p f.name ≡ a → of_kind k f ≡ b → (a && b) ≡ false → chosen ((n, f) ∷ xs) ≡ chosen xs
  skipped n f xs false b x y h = rw x refl
  skipped n f xs true false x y h = rw (x, y) refl
  skipped n f xs true true x y h = absurd (cc)

  first_is : (n : ℕ) (f : File) (xs : List (ℕ × File)) (a b : Bool) → is_match p f.name ≡ a → of_kind k f ≡ b → (a && b) ≡ true → chosen ((n, f) ∷ xs) ≡ Ok (n, f)
  first_is n f xs false b x y h = absurd (cc)
  first_is n f xs true false x y h = absurd (cc)
  first_is n f xs true true x y h = rw (x, y) refl

  -- the file that was found, where the slots count from n
  pub record Hit (n : ℕ) (slots : List (Option File)) (entries : List (List ℕ)) (j : ℕ) (e : List ℕ) : Type 0 where
    pub file : File
    pub is : chosen (files_from n slots) ≡ Ok (j, file)
    pub afterwards : n ≤ j
    pub in_slot : slice_index_or slots (j - n) None ≡ Some file
    pub says : EntrySays file e
    pub entry : slice_get entries (j - n) ≡ Some e

  later : (n : ℕ) (s : Option File) (slots : List (Option File)) (x : List ℕ) (entries : List (List ℕ)) (j : ℕ) (e : List ℕ)
      → chosen (files_from n (s ∷ slots)) ≡ chosen (files_from (n + 1) slots) → Hit (n + 1) slots entries j e → Hit n (s ∷ slots) (x ∷ entries) j e
  later n s slots x entries j e same h =
      let next : j - n ≡ suc (j - (n + 1)) = omega (arith, h.afterwards) in
      record {
        file = h.file;
        is = same ∙ h.is;
        afterwards = omega (arith, h.afterwards);
        in_slot = rw next h.in_slot;
        says = h.says;
        entry = rw next h.entry;
      }

  pub hit : (n : ℕ) (slots : List (Option File)) (entries : List (List ℕ)) → AllZip SlotSays slots entries → (j : ℕ) (e : List ℕ)
      → first_from (is_sought p k) n entries ≡ Some (j, e) → Hit n slots entries j e
  hit n [] [] z j e h = absurd (cc)
  hit n [] (x ∷ entries) z j e h = absurd z
  hit n (s ∷ slots) [] z j e h = absurd z
  hit n (None ∷ slots) (x ∷ entries) z j e h =
      later n None slots x entries j e refl
      (hit (n + 1) slots entries z.1 j e (sym (ap (λ (b : Bool). if b then Some (n, x) else first_from (is_sought p k) (n + 1) entries) (sought_empty p k x z.0)) ∙ h))
  hit n (Some f ∷ slots) (x ∷ entries) z j e h = by_test (is_match p f.name && of_kind k f) refl (hit (n + 1) slots entries z.1 j e)
    where
      is_now : (b : Bool) → (is_match p f.name && of_kind k f) ≡ b → (if b then Some (n, x) else first_from (is_sought p k) (n + 1) entries) ≡ Some (j, e)
      is_now b t = sym (ap (λ (c : Bool). if c then Some (n, x) else first_from (is_sought p k) (n + 1) entries) (sought_file p k f x z.0 ∙ t)) ∙ h

      here : (is_match p f.name && of_kind k f) ≡ true → ◌≡◌ {A = Option (ℕ × List ℕ)} (Some (n, x)) (Some (j, e)) → Hit n (Some f ∷ slots) (x ∷ entries) j e
      here t same =
          let number : n ≡ j = ap number_of same in
          let entry_same : x ≡ e = ap bytes_of same in
          let none : j - n ≡ 0 = omega (arith, number) in
          record {
            file = f;
            is = first_is n f (files_from (n + 1) slots) (is_match p f.name) (of_kind k f) refl refl t ∙ ap (λ (i : ℕ). Ok (i, f)) number;
            afterwards = omega (arith, number);
            in_slot = rw none refl;
            says = subst (EntrySays f) entry_same z.0;
            entry = rw none (ap Some entry_same);
          }

      by_test : (b : Bool) → (is_match p f.name && of_kind k f) ≡ b → (first_from (is_sought p k) (n + 1) entries ≡ Some (j, e) → Hit (n + 1) slots entries j e) → Hit n (Some f ∷ slots) (x ∷ entries) j e
      by_test true t more = here t (is_now true t)
      by_test false t more =
          later n (Some f) slots x entries j e (skipped n f (files_from (n + 1) slots) (is_match p f.name) (of_kind k f) refl refl t) (more (is_now false t))

  pub missed : (n : ℕ) (slots : List (Option File)) (entries : List (List ℕ)) → AllZip SlotSays slots entries
      → first_from (is_sought p k) n entries ≡ None → chosen (files_from n slots) ≡ Err code
  missed n [] [] z h = refl
  missed n [] (x ∷ entries) z h = absurd z
  missed n (s ∷ slots) [] z h = absurd z
  missed n (None ∷ slots) (x ∷ entries) z h =
      missed (n + 1) slots entries z.1 (sym (ap (λ (b : Bool). if b then Some (n, x) else first_from (is_sought p k) (n + 1) entries) (sought_empty p k x z.0)) ∙ h)
  missed n (Some f ∷ slots) (x ∷ entries) z h = by_test (is_match p f.name && of_kind k f) refl (missed (n + 1) slots entries z.1)
    where
      is_now : (b : Bool) → (is_match p f.name && of_kind k f) ≡ b → (if b then Some (n, x) else first_from (is_sought p k) (n + 1) entries) ≡ None
      is_now b t = sym (ap (λ (c : Bool). if c then Some (n, x) else first_from (is_sought p k) (n + 1) entries) (sought_file p k f x z.0 ∙ t)) ∙ h

      by_test : (b : Bool) → (is_match p f.name && of_kind k f) ≡ b → (first_from (is_sought p k) (n + 1) entries ≡ None → chosen (files_from (n + 1) slots) ≡ Err code)
          → chosen (files_from n (Some f ∷ slots)) ≡ Err code
      by_test true t more = let bad = is_now true t in absurd (cc)
      by_test false t more = skipped n f (files_from (n + 1) slots) (is_match p f.name) (of_kind k f) refl refl t ∙ more (is_now false t)

-- some file has the name, or none has
pub is_named : (p : List ℕ) (d : Disk) (listed : Listed) (j : ℕ) (e : List ℕ) → TellsOf d listed → first_from (is_sought p None) 0 listed.entries ≡ Some (j, e) → is_there d p ≡ true
is_named p d listed j e t h = by_list (filter (λ (q : ℕ × File). is_match p q.1.name) (files d)) (hit p None FileNotFound 0 d.slots listed.entries t.each j e h).is
  where
    by_list : {f : File} → (xs : List (ℕ × File)) → first_or (filter (λ (q : ℕ × File). of_kind None q.1) xs) FileNotFound ≡ Ok (j, f) → nat_lt 0 (length xs) ≡ true
    by_list [] g = absurd (cc)
    by_list (x ∷ xs) g = grind (arith, nat_tests)

pub is_unnamed : (p : List ℕ) (d : Disk) (listed : Listed) → TellsOf d listed → first_from (is_sought p None) 0 listed.entries ≡ None → is_there d p ≡ false
is_unnamed p d listed t h = by_list (filter (λ (q : ℕ × File). is_match p q.1.name) (files d)) (missed p None FileNotFound 0 d.slots listed.entries t.each h)
  where
    by_list : (xs : List (ℕ × File)) → first_or (filter (λ (q : ℕ × File). of_kind None q.1) xs) FileNotFound ≡ Err FileNotFound → nat_lt 0 (length xs) ≡ false
    by_list [] g = refl
    by_list (x ∷ xs) g = absurd (cc)

pub named_as : (p : List ℕ) (d : Disk) (listed : Listed) (r : Option (ℕ × List ℕ)) (b : Bool) → TellsOf d listed → Finds (is_sought p None) listed (Ok r) → is_some r ≡ b → is_there d p ≡ b
named_as p d listed None b t h e = is_unnamed p d listed t h.0 ∙ e
named_as p d listed (Some x) b t h e = is_named p d listed x.0 x.1 t h ∙ e

-- what the two searches find is what the machine finds
pub found_hit : (p : List ℕ) (k : Option FileType) (d : Disk) (listed : Listed) (j : ℕ) (e : List ℕ) → TellsOf d listed → first_from (is_sought p k) 0 listed.entries ≡ Some (j, e)
    → Hit p k (if is_there d p then WrongType else FileNotFound) 0 d.slots listed.entries j e
found_hit p k d listed j e t h = hit p k (if is_there d p then WrongType else FileNotFound) 0 d.slots listed.entries t.each j e h

pub found_none : (p : List ℕ) (k : Option FileType) (d : Disk) (listed : Listed) (b : Bool) → TellsOf d listed → first_from (is_sought p k) 0 listed.entries ≡ None → is_there d p ≡ b
    → found d p k ≡ Err (if b then WrongType else FileNotFound)
found_none p k d listed b t h e = missed p k (if is_there d p then WrongType else FileNotFound) 0 d.slots listed.entries t.each h ∙ ap (λ (c : Bool). Err (if c then WrongType else FileNotFound)) e

-- an entry of a number stands in its slot
pub found_as : (tracks : ℕ) (c : Content) (p : List ℕ) (k : Option FileType) (d : Disk) (j : ℕ) (e : List ℕ)
    → TellsOf d (directory_of (geometry_of tracks c) c) → first_from (is_sought p k) 0 (directory_of (geometry_of tracks c) c).entries ≡ Some (j, e)
    → FoundAs tracks c d (found d p k) (Ok (record { slot = j; entry = e }))
found_as tracks c p k d j e t h =
    let x = found_hit p k d (directory_of (geometry_of tracks c) c) j e t h in
    let same : j - 0 ≡ j = omega arith in
    subst (λ r. FoundAs tracks c d r (Ok (record { slot = j; entry = e }))) (sym x.is) (record {
      number = refl;
      in_slot = subst (λ i. slice_index_or d.slots i None ≡ Some x.file) same x.in_slot;
      says = x.says;
      stands = subst (λ i. slice_get (directory_of (geometry_of tracks c) c).entries i ≡ Some e) same x.entry;
    })

pub refused_as : (tracks : ℕ) (c : Content) (p : List ℕ) (k : Option FileType) (d : Disk) (code : Code) (status : Status)
    → found d p k ≡ Err code → status ≡ plain code → FoundAs tracks c d (found d p k) (Err status)
refused_as tracks c p k d code status h e = subst (λ r. FoundAs tracks c d r (Err status)) (sym h) e
