use Rattle.std.proofs.Common.{false, ap, subst, sym, ◌∙◌}
use Rattle.cbm_machine.specs.Calls.{after_open}
use Rattle.cbm_channel.specs.Commanded.{open_formats}
use Rattle.cbm_image.specs.Images.{OpensAgain, KeepsOtherBytes, ChangesSectors}
use Rattle.cbm_shell.specs.Art.{IsDressedIn}
use Rattle.cbm_shell.proofs.ImageLemmas.{sectors_thrice}
use Rattle.cbm_slots.specs.InSlots.{IsCommanded}
use Rattle.cbm_slots.proofs.CommandKinds.{copy_formats}
use Rattle.cbm_slots.proofs.CopyingLemmas.{beside, not_itself, copy_refused}
use Rattle.cbm_slots.proofs.copying.doubled.Goals as goal

pub returns-in_err-copied-clause-fault : goal.returns-in_err-copied-clause-fault
returns-in_err-copied-clause-fault c =
    let image = c.args.image.now in
    let slot = c.args.slot in
    let hidden = c.as_slice.result.now in
    let old = c.args.spares.old in
    let blocks = c.args.meant.now.blocks in
    copy_refused c.from_residual-in_err-copied.result image slot c.in_err-copied.field-0.0 c.from_residual-in_err-copied.ensures.1 (record {
      blocks = blocks;
      old = old;
      new = c.args.spares.new;
      hidden = hidden;
      change = _;
      dressed = subst (λ xs. IsDressedIn image slot old blocks false xs) (sym c.as_slice.ensures.value) c.in_ok-hidden.ensures.dressed;
      copies = λ m. ap (λ t. after_open 15 t m) c.copy_text-text.ensures;
      failed = c.in_err-copied.ensures.made;
    })

pub returns-clause-doubled : goal.returns-clause-doubled
returns-clause-doubled c =
    let image = c.args.image.now in
    let slot = c.args.slot in
    let hidden = c.as_slice.result.now in
    let copied = c.as_slice-2.result.now in
    let meant = c.args.meant.now in
    let spares = c.args.spares in
    beside (λ v. v.items) c.dress-2.result image hidden copied spares.old spares.new meant.name slot meant.blocks meant.is_locked
    (subst (λ xs. IsDressedIn image slot spares.old meant.blocks false xs) (sym c.as_slice.ensures.value) c.in_ok-hidden.ensures.dressed)
    (subst (λ t. IsCommanded hidden t copied) c.copy_text-text.ensures
    (subst (λ xs. IsCommanded hidden c.copy_text-text.result xs) (sym c.as_slice-2.ensures.value) c.in_ok-copied.ensures.made)) c.dress-2.ensures.dressed

pub returns-clause-fault : goal.returns-clause-fault
returns-clause-fault c =
    let image = c.args.image.now in
    let slot = c.args.slot in
    let hidden = c.as_slice.result.now in
    let copied = c.as_slice-2.result.now in
    let meant = c.args.meant.now in
    let spares = c.args.spares in
    not_itself c.dress-2.result image copied slot (λ f failed. record {
      blocks = meant.blocks;
      old = spares.old;
      new = spares.new;
      hidden = hidden;
      copied = copied;
      dressed = subst (λ xs. IsDressedIn image slot spares.old meant.blocks false xs) (sym c.as_slice.ensures.value) c.in_ok-hidden.ensures.dressed;
      done = subst (λ t. IsCommanded hidden t copied) c.copy_text-text.ensures
          (subst (λ xs. IsCommanded hidden c.copy_text-text.result xs) (sym c.as_slice-2.ensures.value) c.in_ok-copied.ensures.made);
      failed = failed;
    }) c.dress-2.ensures.fault

-- COPY isn't NEW, and so each of the three changes is one of sectors only
pub returns-clause-opens : goal.returns-clause-opens
returns-clause-opens c =
    let image = c.args.image.now in
    let hidden = c.as_slice.result.now in
    let copied = c.as_slice-2.result.now in
    let plain = ap (open_formats 15) c.copy_text-text.ensures ∙ copy_formats c.args.spares.new c.args.spares.old in
    sectors_thrice (λ v. v.items) c.dress-2.result image hidden copied
    (subst (λ xs. ChangesSectors image xs) (sym c.as_slice.ensures.value) c.in_ok-hidden.ensures.opens)
    (subst (λ xs. OpensAgain hidden xs) (sym c.as_slice-2.ensures.value) c.in_ok-copied.ensures.opens)
    (subst (λ xs. KeepsOtherBytes hidden xs) (sym c.as_slice-2.ensures.value) (c.in_ok-copied.ensures.bytes plain)) c.dress-2.ensures.opens
