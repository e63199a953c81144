use Rattle.std.proofs.Common.{◌++◌, ◌∷◌, refl}
use Rattle.bus_judge.proofs.Refusing.{none_begins, not_taken}
use Rattle.bus_judge.proofs.Standing.{begins_busy}
use Rattle.bus_judge.proofs.Strangers.{no_stranger}
use Rattle.bus_judge.specs.Judging.{and_then}
use Rattle.bus_judge.proofs.judge.Judge.see.Goals as goal

-- a piece is under way, so the trace begins a session
pub returns-in-Ok-clause-begins : goal.returns-in-Ok-clause-begins
returns-in-Ok-clause-begins c = λ bs done s. begins_busy bs c.go_on.new.self (and_then done c.args.event c.in-Ok.mark) (c.in-Ok.ensures.stands bs done s) c.in-Ok.ensures.busy

-- an event that comes too soon isn't taken
pub returns-in-Ok-clause-too_soon : goal.returns-in-Ok-clause-too_soon
returns-in-Ok-clause-too_soon c = λ bs front s back bus stands soon.
    let done = front ++ s ∷ back in
    let none = none_begins bs front s back c.args.event bus soon in
    let begins = begins_busy bs c.go_on.new.self (and_then done c.args.event c.in-Ok.mark) (c.in-Ok.ensures.stands bs done stands) c.in-Ok.ensures.busy in
    absurd (not_taken bs done c.args.event c.in-Ok.mark none begins)

pub returns-in-Err-clause-too_soon : goal.returns-in-Err-clause-too_soon
returns-in-Err-clause-too_soon c = λ bs front s back bus stands soon. (refl, none_begins bs front s back c.args.event bus soon)

pub returns-in-Some-clause-too_soon : goal.returns-in-Some-clause-too_soon
returns-in-Some-clause-too_soon c = λ bs front s back bus stands soon. (refl, none_begins bs front s back c.args.event bus soon)

-- nor does one of a drive that isn't on the bus
pub returns-in-Ok-clause-stranger : goal.returns-in-Ok-clause-stranger
returns-in-Ok-clause-stranger c = λ bs done d stands is unlike.
    let none = no_stranger bs done c.args.event d is unlike in
    let begins = begins_busy bs c.go_on.new.self (and_then done c.args.event c.in-Ok.mark) (c.in-Ok.ensures.stands bs done stands) c.in-Ok.ensures.busy in
    absurd (not_taken bs done c.args.event c.in-Ok.mark none begins)

pub returns-in-Err-clause-stranger : goal.returns-in-Err-clause-stranger
returns-in-Err-clause-stranger c = λ bs done d stands is unlike. (refl, no_stranger bs done c.args.event d is unlike)

pub returns-in-Some-clause-stranger : goal.returns-in-Some-clause-stranger
returns-in-Some-clause-stranger c = λ bs done d stands is unlike. (refl, no_stranger bs done c.args.event d is unlike)
