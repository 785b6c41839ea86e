-- The data of an Ll_channel_config there and back: a byte, and the points of a pulse. Assumes nothing.
use Prim.Native.Nat.{ℕ, ◌+◌, ◌/◌, ◌%◌, ◌≤◌, ◌<◌}
use mathlib.Core.Path.{◌≡◌}
use mathlib.Core.Bool.{true}
use mathlib.Core.List.{List}
use native.Mathlib.Omega.{arith}
use lib.Dec.{eqb}
use lib.ListN.{length, get_or, take, drop, length-take, length-drop}
use lib.Seq.{length-take-le, get_or-drop}
use borrow.Author.Tests.{eqb-true}
use Rattle.commands.proofs.Tests.{both}
use Rattle.charge.specs.declared.Pulse.{Pulse}
use Rattle.charge.specs.Charge.{points_of, pulse_good}
use Rattle.charge.proofs.Theorems.{good_pulse_lem}
use Rattle.commands3.specs.declared.Command.TheVariants.{LlChannelConfig}
use Rattle.commands3.specs.Points.{bytes_of, points_in, points_clear}
use Rattle.commands3.specs.Commands.{first_byte, data_for, data_of, config_in, reserved_clear}
use Rattle.commands3.proofs.Fronts.{front_again}
use Rattle.commands3.proofs.Points.{reads_points, clear_points, length_bytes, length_points, writes_points}

-- ---- the first byte

module _ (execution channel number : ℕ) (h : channel ≤ 3) (some : 1 ≤ number) (most : number ≤ 16) where
  execution_back : first_byte execution channel number / 128 ≡ execution
  execution_back = omega arith

  channel_back : first_byte execution channel number / 32 % 4 ≡ channel
  channel_back = omega arith

  number_back : first_byte execution channel number % 16 + 1 ≡ number
  number_back = omega arith

  reserved_back : first_byte execution channel number / 16 % 2 ≡ 0
  reserved_back = omega arith

first_again : (first : ℕ) → first / 16 % 2 ≡ 0 → first_byte (first / 128) (first / 32 % 4) (first % 16 + 1) ≡ first
first_again first clear = omega arith

-- ---- writing, then reading

module _ (execution channel : ℕ) (p : Pulse) (g : pulse_good p ≡ true) where
  -- THEOREM. A config's data is its first byte and at most sixteen points.
  pub length_config : length (data_for (LlChannelConfig execution channel) p) ≤ 65
  length_config = let parts = good_pulse_lem p g in omega (arith, length_bytes (points_of p), length-take p.number p.points)

  module _ (h : channel ≤ 3) (sixteen : length p.points ≡ 16) where
    -- THEOREM. A good config is read from its data as it was.
    pub reads_config : config_in (data_for (LlChannelConfig execution channel) p) ≡ record { command = LlChannelConfig execution channel; pulse = p }
    reads_config =
        let parts = good_pulse_lem p g in
        let some = parts.some in
        let most = parts.few in
        let points : points_in 16 p.number (bytes_of (points_of p)) ≡ p.points =
        rw sixteen at (reads_points p.number p.points (omega arith) parts.good parts.zero) in
        rw (execution_back, channel_back, number_back, points)

    -- THEOREM. The reserved bits of a config's data are 0.
    pub clear_config : reserved_clear 2 (data_for (LlChannelConfig execution channel) p) ≡ true
    unfolding reserved_clear
    clear_config =
        let parts = good_pulse_lem p g in
        let some = parts.some in
        let most = parts.few in
        let points : length (points_of p) ≡ p.number = length-take-le p.number p.points (omega arith) in
        rw (reserved_back, number_back) (rw points at (clear_points (points_of p)))

-- ---- reading, then writing

module _ (d : List ℕ) (byte : (i : ℕ) → get_or d i 0 < 256) where
  -- THEOREM. Data whose reserved bits are 0 and that is as long as its number of points says is written again from the config that is read.
  pub writes_config : length (data_of (config_in d)) ≡ length d → reserved_clear 2 d ≡ true → data_of (config_in d) ≡ d
  unfolding reserved_clear
  writes_config e clear =
      let first = get_or d 0 0 in
      let number = first % 16 + 1 in
      let points = points_in 16 number (drop 1 d) in
      let bits = both (eqb (first / 16 % 2) 0) (points_clear number (drop 1 d)) clear in
      let count : length (take number points) ≡ number = length-take-le number points (omega (arith, length_points 16 number (drop 1 d))) in
      let bytes : bytes_of (take number points) ≡ drop 1 d =
      writes_points 16 number (drop 1 d) (λ i. rw (get_or-drop 1 d i 0) (byte (1 + i))) (omega arith)
      (omega (arith, length-drop 1 d, length_bytes (take number points)))
      bits.1 in
      rw (first_again first (eqb-true (first / 16 % 2) 0 bits.0), bytes) (front_again d 1 (omega arith))
