use Rattle.std.proofs.Common.{◌≡◌, false, subst, sym, ◌∙◌, ap}
use Rattle.cbm_machine.specs.Calls.{after_open}
use Rattle.cbm_shell.specs.Images.{IsSoundImage}
use Rattle.cbm_shell.specs.Art.{IsDressedIn}
use Rattle.cbm_image.specs.Images.{kind_of, OpensAgain, KeepsOtherBytes, ChangesSectors}
use Rattle.cbm_slots.specs.InSlots.{has_name, blocks_said, IsCommanded}
use Rattle.cbm_shell.proofs.ImageLemmas.{sectors_thrice}
use Rattle.cbm_slots.proofs.CommandKinds.{scratch_formats}
use Rattle.cbm_channel.specs.Commanded.{open_formats}
use Rattle.cbm_slots.proofs.DeletingLemmas.{named_again, not_named, not_scratched}
use Rattle.cbm_slots.proofs.deleting.delete.Goals as goal

pub returns-in_err-scratched-clause-fault : goal.returns-in_err-scratched-clause-fault
returns-in_err-scratched-clause-fault c =
    let image = c.args.image.now in
    let slot = c.args.slot in
    let meant = c.in_ok-meant.meant in
    let there = c.in_ok-meant.ensures.there in
    let hidden = c.as_slice-2.result.now in
    let spare = c.in-Some.spare in
    not_scratched c.from_residual-in_err-scratched.result image slot c.in_err-scratched.field-0.0 c.from_residual-in_err-scratched.ensures.1 (record {
      entry = there.entry;
      spare = spare;
      hidden = hidden;
      change = _;
      dressed = subst (λ n. IsDressedIn image slot spare n false hidden) there.blocks
          (subst (λ xs. IsDressedIn image slot spare meant.blocks false xs) (sym c.as_slice-2.ensures.value) c.in_ok-hidden.ensures.dressed);
      sound = subst (λ xs. IsSoundImage (kind_of image) xs) (sym c.as_slice-2.ensures.value) c.in_ok-hidden.ensures.stays;
      scratch = λ m. ap (λ t. after_open 15 t m) c.scratch_text-text.ensures;
      failed = c.in_err-scratched.ensures.made;
    })

pub returns-clause-deleted : goal.returns-clause-deleted
returns-clause-deleted c =
    let image = c.args.image.now in
    let slot = c.args.slot in
    let meant = c.in_ok-meant.meant in
    let there = c.in_ok-meant.ensures.there in
    let hidden = c.as_slice-2.result.now in
    let scratched = c.as_slice-3.result.now in
    let spare = c.in-Some.spare in
    let text = c.scratch_text-text.result in
    named_again (λ v. v.items) c.dress-2.result image scratched meant.name slot meant.blocks (λ new dressed sound. record {
      entries = meant.entries.items;
      entry = there.entry;
      spare = spare;
      hidden = hidden;
      all = c.in_ok-meant.ensures.all;
      there = there.there;
      unlocked = sym there.locked ∙ c.if-meant.false;
      free = subst (λ es. has_name spare es ≡ false) c.as_slice.ensures.value c.in-Some.ensures.free;
      dressed = subst (λ n. IsDressedIn image slot spare n false hidden) there.blocks
          (subst (λ xs. IsDressedIn image slot spare meant.blocks false xs) (sym c.as_slice-2.ensures.value) c.in_ok-hidden.ensures.dressed);
      scratched = scratched;
      done = subst (λ t. IsCommanded hidden t scratched) c.scratch_text-text.ensures
          (subst (λ xs. IsCommanded hidden text xs) (sym c.as_slice-3.ensures.value) c.in_ok-scratched.ensures.made);
      named = subst (λ n. IsDressedIn scratched slot n (blocks_said there.entry) false new) there.name (subst (λ n. IsDressedIn scratched slot meant.name n false new) there.blocks dressed);
      sound = sound;
    }) c.dress-2.ensures.dressed c.dress-2.ensures.stays

pub returns-clause-fault : goal.returns-clause-fault
returns-clause-fault c =
    let image = c.args.image.now in
    let slot = c.args.slot in
    let meant = c.in_ok-meant.meant in
    let there = c.in_ok-meant.ensures.there in
    let hidden = c.as_slice-2.result.now in
    let scratched = c.as_slice-3.result.now in
    let spare = c.in-Some.spare in
    not_named c.dress-2.result image scratched slot (λ f failed. record {
      entry = there.entry;
      spare = spare;
      hidden = hidden;
      scratched = scratched;
      dressed = subst (λ n. IsDressedIn image slot spare n false hidden) there.blocks
          (subst (λ xs. IsDressedIn image slot spare meant.blocks false xs) (sym c.as_slice-2.ensures.value) c.in_ok-hidden.ensures.dressed);
      done = subst (λ t. IsCommanded hidden t scratched) c.scratch_text-text.ensures
          (subst (λ xs. IsCommanded hidden c.scratch_text-text.result xs) (sym c.as_slice-3.ensures.value) c.in_ok-scratched.ensures.made);
      failed = failed;
    }) c.dress-2.ensures.fault

-- SCRATCH isn't NEW, and so each of the three changes is one of sectors only
pub returns-clause-opens : goal.returns-clause-opens
returns-clause-opens c =
    let image = c.args.image.now in
    let hidden = c.as_slice-2.result.now in
    let scratched = c.as_slice-3.result.now in
    let plain = ap (open_formats 15) c.scratch_text-text.ensures ∙ scratch_formats c.in-Some.spare in
    sectors_thrice (λ v. v.items) c.dress-2.result image hidden scratched
    (subst (λ xs. ChangesSectors image xs) (sym c.as_slice-2.ensures.value) c.in_ok-hidden.ensures.opens)
    (subst (λ xs. OpensAgain hidden xs) (sym c.as_slice-3.ensures.value) c.in_ok-scratched.ensures.opens)
    (subst (λ xs. KeepsOtherBytes hidden xs) (sym c.as_slice-3.ensures.value) (c.in_ok-scratched.ensures.bytes plain)) c.dress-2.ensures.opens
