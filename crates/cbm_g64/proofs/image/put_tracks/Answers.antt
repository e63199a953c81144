use Rattle.std.proofs.Common.{◌≡◌, ◌∙◌, ℕ, List, [], Bool, length, take, drop, ◌+◌, ◌-◌, ◌/◌, sym, subst, arith, true, false}
use Rattle.std.proofs.lemmas.List.{get_or_read, length-take-le, length-drop}
use Rattle.cbm_g64.specs.File.{g64_circles}
use Rattle.cbm_g64.specs.NewFile.{base_of}
use Rattle.cbm_g64.proofs.Imaging.{IsPut, put_none, put_all, put_skip, put_at, track_ends}
use Rattle.cbm_g64.specs.Image.{IsHeld, IsImageOf}
use Rattle.cbm_sector.specs.Decoding.{IsBytes}
use Rattle.cbm_g64.proofs.Kept.{read_again, rest_kept, unwritten}
use Rattle.cbm_g64.proofs.image.put_tracks.Goals as goal
use Rattle.cbm_g64.proofs.image.put_tracks.Goals.{then-at-ne0, else-at-ne0, After-are_bytes}

pub loop-i-init : goal.loop-i-init
loop-i-init c = put_none (base_of c.args.formatted c.args.file.now) c.args.tracks.now c.args.out.now c.requires.base

pub slice_bounds-bytes_at-end : goal.slice_bounds-bytes_at-end
slice_bounds-bytes_at-end c = (track_ends (base_of c.args.formatted c.args.file.now) c.loop-i.out c.args.tracks.now c.track-track.result.now c.loop-i.i c.offset_in-at.result c.bits.result c.requires.held c.loop-i-test.true c.loop-i.invariant.same_length
    c.offset_in-at.ensures.value c.if-at-ne0.true c.bits.ensures.value (c.track-track.ensures ∙ get_or_read c.args.tracks.now c.loop-i.i c.index-tracks-i.result (omega (arith, c.requires.held.count)) c.index-tracks-i.is [])).1

pub loop-i-preserved : goal.loop-i-preserved
loop-i-preserved c = elim c.if-at-ne0.branch [
  | then-at-ne0 w ↦ (
      let base = base_of c.args.formatted c.args.file.now in
      let image = c.loop-i.out in
      let at = c.offset_in-at.result in
      let k = c.offset_in-at.result + 2 + w.bits.result / 8 - (c.offset_in-at.result + 2) in
      let g = w.track-track.ensures ∙ get_or_read c.args.tracks.now c.loop-i.i w.index-tracks-i.result (omega (arith, c.requires.held.count)) w.index-tracks-i.is [] in
      let d = track_ends base image c.args.tracks.now w.track-track.result.now c.loop-i.i at w.bits.result c.requires.held c.loop-i-test.true c.loop-i.invariant.same_length c.offset_in-at.ensures.value w.if-at-ne0.true w.bits.ensures.value g in
      let d1 = d.1 in
      let m : length (take k (drop (at + 2) image)) ≡ k = length-take-le k (drop (at + 2) image) (omega (arith, length-drop (at + 2) image)) in
      put_at base image w.bytes_at.new.out c.if-at-ne0.out c.args.tracks.now w.track-track.result.now c.loop-i.i at w.bits.result k (length (take k (drop (at + 2) image))) c.requires.held c.loop-i-test.true c.loop-i.invariant
      c.offset_in-at.ensures.value w.if-at-ne0.true w.bits.ensures.value g w.out-is (omega arith) w.bytes_at.ensures (omega (arith, m)) w.bytes_at.auto.out)
  | else-at-ne0 w ↦ rw w.out-is (put_skip (base_of c.args.formatted c.args.file.now) c.args.tracks.now c.loop-i.out c.loop-i.i c.loop-i.invariant (sym c.offset_in-at.ensures.value ∙ w.if-at-ne0.false))
]

-- what stands in the file at the end
made : (c : After-are_bytes) → IsImageOf (base_of c.args.formatted c.args.file.now) c.args.tracks.now c.loop-i.out
made c = put_all (base_of c.args.formatted c.args.file.now) c.args.tracks.now c.loop-i.out (subst (IsPut (base_of c.args.formatted c.args.file.now) c.args.tracks.now c.loop-i.out) (omega arith) c.loop-i.invariant)

pub returns-clause-image : goal.returns-clause-image
returns-clause-image c = made c

pub returns-clause-again : goal.returns-clause-again
returns-clause-again c = read_again (base_of c.args.formatted c.args.file.now) c.args.tracks.now c.loop-i.out c.requires.held (made c)

pub returns-clause-rest : goal.returns-clause-rest
returns-clause-rest c = rest_kept (base_of c.args.formatted c.args.file.now) c.args.tracks.now c.loop-i.out c.requires.held (made c)

same_file : (file image : List ℕ) (tracks : List (List Bool)) (b : Bool) → IsHeld (base_of b file) tracks → IsBytes file → IsBytes image → IsImageOf (base_of b file) tracks image → b ≡ false → tracks ≡ g64_circles file 35 → image ≡ file
same_file file image tracks true h f g m e t = cc
same_file file image tracks false h f g m e t = unwritten file image (subst (IsHeld file) t h) f g (subst (λ (u : List (List Bool)). IsImageOf file u image) t m)

pub returns-clause-unwritten : goal.returns-clause-unwritten
returns-clause-unwritten c = same_file c.args.file.now c.loop-i.out c.args.tracks.now c.args.formatted c.requires.held (λ i. let f = c.type_inv.file i in omega arith) c.are_bytes.ensures (made c)
