-- Sums, added and taken away.
use Rattle.std.specs.Prelude.{◌+◌, ◌-◌, ◌<◌, ◌≤◌, ◌^◌}
use Rattle.cga_bill.specs.declared.sums.Sums.{Sums}

abbrev pub no_sums : Sums
no_sums = record { number = 0; front = 0; volume = 0; unmeasured = 0 }

abbrev pub plus_sums : Sums → Sums → Sums
plus_sums a b = record {
  number = a.number + b.number;
  front = a.front + b.front;
  volume = a.volume + b.volume;
  unmeasured = a.unmeasured + b.unmeasured;
}

abbrev pub minus_sums : Sums → Sums → Sums
minus_sums a b = record {
  number = a.number - b.number;
  front = a.front - b.front;
  volume = a.volume - b.volume;
  unmeasured = a.unmeasured - b.unmeasured;
}

-- both together can be counted
pub record HasRoom (a b : Sums) : Type 0 where
  pub number : a.number + b.number < 2 ^ 64
  pub front : a.front + b.front < 2 ^ 128
  pub volume : a.volume + b.volume < 2 ^ 128
  pub unmeasured : a.unmeasured + b.unmeasured < 2 ^ 64

-- a is at least b
pub record Holds (a b : Sums) : Type 0 where
  pub number : b.number ≤ a.number
  pub front : b.front ≤ a.front
  pub volume : b.volume ≤ a.volume
  pub unmeasured : b.unmeasured ≤ a.unmeasured
