-- What all others hold as the code counts it, and a port that is told it.
use Rattle.std.specs.Prelude.{◌≡◌, ℕ, Option}
use Rattle.cbm_iec.specs.Ports.{told, told_act}
use Rattle.cbm_iec.specs.declared.machine.Act.{Act}
use Rattle.cbm_session.specs.Among.{Rest, wires_of}
use Rattle.bus_beside.specs.declared.others.Others.{Others}
use Rattle.bus_beside.specs.declared.wired.Wired.{Wired}

-- the same in the words of a session
abbrev pub rest_by : Others → Rest
rest_by o = record { host = o.host; clocks = o.clocks; datas = o.datas }

-- From a moment on this is what all others hold: the port is told it, and the act counts with it.
pub record ToldBy (moment : ℕ) (rest : Rest) (was now : Wired) (act : Option Act) : Type 0 where
  pub port : now.port ≡ told moment (wires_of rest) was.port
  pub others : rest_by now.others ≡ rest
  pub counts : act ≡ told_act (wires_of rest) was.port
