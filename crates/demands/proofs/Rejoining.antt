-- The strict box of the example has a profile that is nowhere looser, and so it rejoins. Assumes nothing.
use Prim.Native.Nat.{ℕ}
use lib.Dec.{lit≤}
use lib.ListN.{get_or-replicate}
use Rattle.model.specs.Profiles.{NowhereLooser}
use Rattle.demands.specs.FreshBox.{loosest}
use Rattle.demands.specs.Rejoining.{strict, Rejoins}
use Rattle.demands.proofs.Computed.{computed}

stricter : NowhereLooser strict loosest
stricter =
    record {
      currents = λ i h. rw (get_or-replicate {A = ℕ} 8 i 35 0 h, get_or-replicate {A = ℕ} 8 i 127 0 h) (lit≤ tt);
      widths = λ i h. rw (get_or-replicate {A = ℕ} 8 i 500 0 h) (lit≤ tt);
      charge = lit≤ tt;
      shortest = lit≤ tt;
      watchdog = lit≤ tt;
    }

pub rejoins : Rejoins
rejoins = computed.rejoining stricter
