use Rattle.std.proofs.Common.{◌≡◌, length, rules, subst, sym, to_z, of_z, w32}
use Rattle.std.specs.Prelude.{ℤ, MatchResult}
use Rattle.std_alloc.specs.Box.{with_value}
use Rattle.cbm_device.specs.Answers.{fine, answer_number}
use Rattle.cbm_device.specs.Channels.{IsCallable, IsUncallable, HasTalked}
use Rattle.cbm_direct_device.specs.DirectChannels.{HasTalkedDirect}
use Rattle.yellowadze1541.specs.AnyDevices.{ActsOn}
use Rattle.yellowadze1541.specs.Channels.{Reads, ReadsDirect}
use Rattle.yellowadze1541.specs.Looks.{flag}
use Rattle.yellowadze1541.specs.declared.any_device.AnyDevice.TheVariants.{Plain, Direct}
use Rattle.yellowadze1541.proofs.Reading.{reads_by}
use Rattle.yellowadze1541.proofs.any_device.AnyDevice.read_channel.Goals as goal

pub returns-in-Plain : goal.returns-in-Plain
returns-in-Plain c =
    let n = to_z w32 (of_z w32 c.report_came.result) in
    let same : n ≡ c.report_came.result = search rules in
    let channel = c.args.channel in
    let out = c.args.out.now in
    let made = c.read_channel.new.out in
    let before = c.args.got.now in
    let got = c.report_came.new.got in
    let unmarked = c.args.last.now in
    let last = c.report_came.new.last in
    let old = c.deref_mut.result.now in
    let now = c.read_channel.new.self in
    let told = subst (λ (k : ℤ). MatchResult c.read_channel.result (λ came. (k ≡ fine) × (got ≡ came.count) × (last ≡ flag came.marked)) (λ why. (k ≡ answer_number why) × (got ≡ before) × (last ≡ unmarked)))
    (sym same) c.report_came.ensures in
    let reads : Reads channel n out made before got unmarked last c.in-Plain.device.value now
    = subst (λ d. Reads channel n out made before got unmarked last d now) c.deref_mut.ensures.value
    (reads_by (IsCallable channel old.seat.port) (IsUncallable channel old.seat.port) (now ≡ old) (λ bytes marked. HasTalked channel (length out) bytes marked old now) c.read_channel.result n out made before got unmarked last
    told c.read_channel.ensures.callable c.read_channel.ensures.talked c.read_channel.ensures.err) in
    subst (λ d. ActsOn (Reads channel n out made before got unmarked last) (ReadsDirect channel n out made before got unmarked last) d (Plain (with_value c.in-Plain.device now))) (sym c.in-Plain.is) reads

pub returns-in-Direct : goal.returns-in-Direct
returns-in-Direct c =
    let n = to_z w32 (of_z w32 c.report_came-in-Direct.result) in
    let same : n ≡ c.report_came-in-Direct.result = search rules in
    let channel = c.args.channel in
    let out = c.args.out.now in
    let made = c.read_channel-in-Direct.new.out in
    let before = c.args.got.now in
    let got = c.report_came-in-Direct.new.got in
    let unmarked = c.args.last.now in
    let last = c.report_came-in-Direct.new.last in
    let old = c.deref_mut-in-Direct.result.now in
    let now = c.read_channel-in-Direct.new.self in
    let told = subst (λ (k : ℤ). MatchResult c.read_channel-in-Direct.result (λ came. (k ≡ fine) × (got ≡ came.count) × (last ≡ flag came.marked)) (λ why. (k ≡ answer_number why) × (got ≡ before) × (last ≡ unmarked)))
    (sym same) c.report_came-in-Direct.ensures in
    let reads : ReadsDirect channel n out made before got unmarked last c.in-Direct.device.value now
    = subst (λ d. ReadsDirect channel n out made before got unmarked last d now) c.deref_mut-in-Direct.ensures.value
    (reads_by (IsCallable channel old.seat.port) (IsUncallable channel old.seat.port) (now ≡ old) (λ bytes marked. HasTalkedDirect channel (length out) bytes marked old now) c.read_channel-in-Direct.result n out made before got unmarked last
    told c.read_channel-in-Direct.ensures.callable c.read_channel-in-Direct.ensures.talked c.read_channel-in-Direct.ensures.err) in
    subst (λ d. ActsOn (Reads channel n out made before got unmarked last) (ReadsDirect channel n out made before got unmarked last) d (Direct (with_value c.in-Direct.device now))) (sym c.in-Direct.is) reads
