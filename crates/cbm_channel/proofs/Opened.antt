-- Which file an OPEN is about, and what was opened, on any disk.
use Rattle.std.proofs.Common.{◌≡◌, ◌⊎◌, ℕ, List, true, false, refl, sym, subst, ◌∙◌, inl, inr, Option, Some, None, Result, Ok, Err}
use Rattle.std.specs.Prelude.{IfOk}
use Rattle.std.specs.List.{Contains}
use Rattle.cbm_file.specs.declared.file_type.FileType.{FileType}
use Rattle.cbm_file.specs.declared.file_type.FileType.TheVariants.{Del, Seq, Prg, Usr, Rel}
use Rattle.cbm_medium.specs.Seen.{Seen}
use Rattle.cbm_command.specs.declared.opening.Opening.{Opening}
use Rattle.cbm_command.specs.declared.opening.Opening.TheVariants as opening
use Rattle.cbm_command.specs.declared.opening.Wanted.{Wanted}
use Rattle.cbm_command.specs.Openings.{wants_relative}
use Rattle.cbm_machine.specs.declared.status.Status.{Status}
use Rattle.cbm_channel.specs.declared.channel.Channel.{Channel}
use Rattle.cbm_channel.specs.declared.finding.Found.{Found}
use Rattle.cbm_channel.specs.declared.plan.Plan.{Plan}
use Rattle.cbm_channel.specs.declared.plan.Plan.TheVariants.{ReadListing, ReadFile, WriteFile, AppendFile, ReplaceFile, OpenRecords, MakeRecords}
use Rattle.cbm_volume.specs.SeenDisks.{seen_directory}
use Rattle.cbm_channel.specs.Grounds.{IsFromDirectory}
use Rattle.cbm_channel.proofs.Troubles.{first_contained}
use Rattle.cbm_channel.specs.Meant.{IsFirstOf, IsFileMeant, IsPlanMeant, PlanWasDone}

-- ---- which file

-- it is this plan, if it isn't refused
pub meant_as : (now : Seen) (wanted : Wanted) (r : Result Plan Status) (plan : Plan) → IfOk r (λ p. p ≡ plan) → IsFileMeant now wanted plan → IfOk r (IsFileMeant now wanted)
meant_as now wanted (Ok p) plan is h = subst (IsFileMeant now wanted) (sym is) h
meant_as now wanted (Err s) plan is h = tt

-- a file that is read, or whose records are opened
pub meant_found : (now : Seen) (wanted : Wanted) (r : Result Plan Status) (found : Found) → IfOk r (λ p. (p ≡ ReadFile found) ⊎ (p ≡ OpenRecords found)) → IsFirstOf now wanted.name wanted.kind found.slot found.entry → IfOk r (IsFileMeant now wanted)
meant_found now wanted (Ok p) found (inl is) h = subst (IsFileMeant now wanted) (sym is) h
meant_found now wanted (Ok p) found (inr is) h = subst (IsFileMeant now wanted) (sym is) h
meant_found now wanted (Err s) found is h = tt

-- the type that is asked for is REL
pub kind_relative : (wanted : Wanted) → wants_relative wanted ≡ true → wanted.kind ≡ Some Rel
kind_relative wanted is = by_kind wanted.kind is
  where
    by_kind : (k : Option FileType) → (elim k [ Some Rel ↦ true | _ ↦ false ]) ≡ true → k ≡ Some Rel
    by_kind None e = absurd (cc)
    by_kind (Some Del) e = absurd (cc)
    by_kind (Some Seq) e = absurd (cc)
    by_kind (Some Prg) e = absurd (cc)
    by_kind (Some Usr) e = absurd (cc)
    by_kind (Some Rel) e = refl

-- the OPEN asks for it
pub meant_file : (now : Seen) (asked : Opening) (wanted : Wanted) (r : Result Plan Status) → asked ≡ opening.File wanted → IfOk r (IsFileMeant now wanted) → IfOk r (IsPlanMeant now asked)
meant_file now asked wanted r is h = subst (λ (o : Opening). IfOk r (IsPlanMeant now o)) (sym is) h

-- ---- it was found in the directory

first_in : (now : Seen) (pattern : List ℕ) (kind : Option FileType) (slot : ℕ) (entry : List ℕ) → IsFirstOf now pattern kind slot entry → Contains (seen_directory now).entries entry
first_in now pattern kind slot entry h = first_contained _ 0 _ slot entry h

from_file : {M : Type 0} (seen : M → Seen) (m : M) (wanted : Wanted) (plan : Plan) → IsFileMeant (seen m) wanted plan → IsFromDirectory seen m plan
from_file seen m wanted (ReadListing pattern) h = tt
from_file seen m wanted (ReadFile found) h = first_in (seen m) wanted.name wanted.kind found.slot found.entry h
from_file seen m wanted (WriteFile kind name) h = tt
from_file seen m wanted (AppendFile found) h = first_in (seen m) wanted.name wanted.kind found.slot found.entry h
from_file seen m wanted (ReplaceFile slot) h = tt
from_file seen m wanted (OpenRecords found) h = first_in (seen m) wanted.name wanted.kind found.slot found.entry h
from_file seen m wanted (MakeRecords name width) h = tt

pub from_directory : {M : Type 0} (seen : M → Seen) (m : M) (asked : Opening) (plan : Plan) → IsPlanMeant (seen m) asked plan → IsFromDirectory seen m plan
from_directory seen m (opening.Listing pattern) plan h = subst (IsFromDirectory seen m) (sym h) tt
from_directory seen m (opening.File wanted) plan h = from_file seen m wanted plan h

-- ---- what was done

pub plan_done : (plan one : Plan) → plan ≡ one → (before after : Seen) (x : Channel) → PlanWasDone one before after x → PlanWasDone plan before after x
plan_done plan one is before after x h = subst (λ (p : Plan). PlanWasDone p before after x) (sym is) h

-- one answer
pub same_ok : {A E : Type 0} (x y : A) (r : Result A E) → r ≡ Ok x → r ≡ Ok y → x ≡ y
same_ok x y r e f = (let z = sym e ∙ f in (cc))
