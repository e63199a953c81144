use Rattle.std.proofs.Common.{◌≡◌, ◌<◌, ◌+◌, ◌-◌, ◌*◌, ◌^◌, drop}
use Rattle.std.specs.Prelude.{fold}
use Rattle.std.specs.List.{list_all}
use Rattle.bus_traces.specs.Words.{is_decimal, decimal_value}
use Rattle.bus_traces.proofs.text.words.number.Given as goal

abbrev pub invariant-loop-digit : goal.invariant-loop-digit
invariant-loop-digit l = record {
  value : fold (λ n d. 10 * n + (d - 48)) l.value (drop l.digit-index l.word) ≡ decimal_value l.word;
  digits : list_all is_decimal (drop l.digit-index l.word) ≡ list_all is_decimal l.word;
  bound : l.value < 10 ^ l.digit-index;
}
