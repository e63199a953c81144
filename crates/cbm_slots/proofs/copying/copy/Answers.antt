use Rattle.std.proofs.Common.{◌≡◌, false, subst, sym, ◌∙◌}
use Rattle.cbm_slots.specs.InSlots.{blocks_said, has_name, is_locked, IsDoubled}
use Rattle.cbm_image.specs.Images.{ChangesSectors}
use Rattle.cbm_shell.proofs.ImageLemmas.{sectors_after}
use Rattle.cbm_slots.proofs.CopyingLemmas.{not_doubled, copied_as, copy_unnamed}
use Rattle.cbm_slots.proofs.copying.copy.Goals as goal

pub returns-in_err-both-clause-fault : goal.returns-in_err-both-clause-fault
returns-in_err-both-clause-fault c =
    not_doubled c.from_residual-in_err-both.result c.args.image.now c.args.name.now c.args.slot c.in_err-both.field-0.0 c.from_residual-in_err-both.ensures.1 c.in_err-both.ensures.fault

pub returns-clause-copied : goal.returns-clause-copied
returns-clause-copied c =
    let image = c.args.image.now in
    let slot = c.args.slot in
    let meant = c.in_ok-meant.meant in
    let there = c.in_ok-meant.ensures.there in
    let spares = c.in-Some.spares in
    let both = c.as_slice-3.result.now in
    copied_as (λ v. v.items) c.named.result image both spares.new c.args.name.now slot (λ new named sound. record {
      entries = meant.entries.items;
      entry = there.entry;
      old = spares.old;
      spare = spares.new;
      both = both;
      all = c.in_ok-meant.ensures.all;
      there = there.there;
      free = subst (λ es. has_name c.args.name.now es ≡ false) c.as_slice.ensures.value (sym c.has_name.ensures ∙ c.if-has_name.false);
      old_free = subst (λ es. has_name spares.old es ≡ false) c.as_slice-2.ensures.value c.in-Some.ensures.old;
      spare_free = subst (λ es. has_name spares.new es ≡ false) c.as_slice-2.ensures.value c.in-Some.ensures.new;
      doubled = subst (λ n. IsDoubled image slot n (blocks_said there.entry) (is_locked there.entry) spares.old spares.new both) there.name
          (subst (λ n. IsDoubled image slot meant.name n (is_locked there.entry) spares.old spares.new both) there.blocks
          (subst (λ b. IsDoubled image slot meant.name meant.blocks b spares.old spares.new both) there.locked
          (subst (λ xs. IsDoubled image slot meant.name meant.blocks meant.is_locked spares.old spares.new xs) (sym c.as_slice-3.ensures.value) c.in_ok-both.ensures.doubled)));
      named = named;
      sound = sound;
    }) c.named.ensures.named c.named.ensures.stays

pub returns-clause-fault : goal.returns-clause-fault
returns-clause-fault c =
    let image = c.args.image.now in
    let slot = c.args.slot in
    let meant = c.in_ok-meant.meant in
    let spares = c.in-Some.spares in
    let both = c.as_slice-3.result.now in
    copy_unnamed c.named.result image both spares.new c.args.name.now slot (λ f failed. record {
      name = meant.name;
      blocks = meant.blocks;
      locked = meant.is_locked;
      old = spares.old;
      spare = spares.new;
      both = both;
      doubled = subst (λ xs. IsDoubled image slot meant.name meant.blocks meant.is_locked spares.old spares.new xs) (sym c.as_slice-3.ensures.value) c.in_ok-both.ensures.doubled;
      failed = failed;
    }) c.named.ensures.fault

pub returns-clause-opens : goal.returns-clause-opens
returns-clause-opens c =
    let image = c.args.image.now in
    let both = c.as_slice-3.result.now in
    sectors_after (λ v. v.items) c.named.result image both (subst (λ xs. ChangesSectors image xs) (sym c.as_slice-3.ensures.value) c.in_ok-both.ensures.opens) c.named.ensures.opens
