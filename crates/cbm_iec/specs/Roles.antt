-- What the attention bytes make of a drive: listener, talker, or neither.
use Rattle.std.specs.Prelude.{ℕ, ◌+◌, if◌then◌else◌, nat_le, nat_eq, ◌&&◌, Option, Some}
use Rattle.cbm_iec.specs.Attentions.{listen, unlisten, talk, untalk}
use Rattle.cbm_iec.specs.declared.machine.Act.TheVariants.{Attention}
use Rattle.cbm_iec.specs.declared.machine.Act.{Act}
use Rattle.cbm_iec.specs.declared.party.Role.TheVariants.{Absent, Listener, Talker}
use Rattle.cbm_iec.specs.declared.party.Role.{Role}

-- the role of the drive with device number d after an attention byte: LISTEN and TALK name a device, UNLISTEN is for each listener, and TALK to another device ends a talker
abbrev pub role_after : ℕ → ℕ → Role → Role
role_after d byte Absent = if nat_eq byte (listen + d) then Listener else if nat_eq byte (talk + d) then Talker else Absent
role_after d byte Listener = if nat_eq byte unlisten then Absent else if nat_eq byte (talk + d) then Talker else Listener
role_after d byte Talker = if nat_eq byte (listen + d) then Listener else if nat_eq byte (talk + d) then Talker else if nat_le talk byte && nat_le byte untalk then Absent else Talker

-- and after an act: only a byte in attention changes it
abbrev pub role_with : ℕ → Option Act → Role → Role
role_with d (Some (Attention byte)) role = role_after d byte role
role_with d act role = role
