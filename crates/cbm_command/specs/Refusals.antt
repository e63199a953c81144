-- Refusals, and how a list gives their order.
use Rattle.std.specs.Prelude.{ℕ, ◌&&◌, Bool, List, [], ◌∷◌, nat_le, if◌then◌else◌, ◌==◌, Result, Ok, Err}
use Rattle.cbm_command.specs.declared.refusal.Refusal.{Refusal}
use Rattle.cbm_command.specs.declared.refusal.Refusal.TheVariants.{Syntax, UnknownCommand, LongText, WildName, NoName, NoChannel, DriveNotReady}
use Rattle.cbm_command.specs.Texts.{drive_digit}

-- the number of a refusal
abbrev pub refusal_number : Refusal → ℕ
refusal_number Syntax = 30
refusal_number UnknownCommand = 31
refusal_number LongText = 32
refusal_number WildName = 33
refusal_number NoName = 34
refusal_number NoChannel = 70
refusal_number DriveNotReady = 74

infixl 10 ◌>>=◌
-- goes on where nothing was refused
abbrev pub ◌>>=◌ : {A B E : Type 0} → Result A E → (A → Result B E) → Result B E
(Ok x) >>= f = f x
(Err e) >>= f = Err e

-- The first case that applies refuses; else the rest answers.
abbrev pub unless : {A E : Type 0} → List (Bool × E) → Result A E → Result A E
unless [] rest = rest
unless (c ∷ cs) rest = if c.0 then Err c.1 else unless cs rest

-- what a byte answers that may not stand in a head: it is another drive, or nothing
abbrev pub head_refusal : ℕ → Refusal
head_refusal c = if nat_le 49 c && nat_le c 57 then DriveNotReady else Syntax

-- nothing more stands in the head
abbrev pub head_ends : List ℕ → Result (Unit {0}) Refusal
head_ends [] = Ok tt
head_ends (c ∷ rest) = Err (head_refusal c)

-- A head that may hold the drive's digit: no byte, or that one. The first byte at fault answers.
abbrev pub drive_head : List ℕ → Result (Unit {0}) Refusal
drive_head [] = Ok tt
drive_head (c ∷ rest) = if c == drive_digit then head_ends rest else Err (head_refusal c)
