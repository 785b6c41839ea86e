-- What is written for a good command reads back as that command. Assumes nothing.
use Prim.Native.Nat.{ℕ, suc, ◌+◌, ◌-◌, ◌*◌, ◌^◌, ◌≤◌, ◌<◌}
use mathlib.Core.Bool.{true}
use mathlib.Core.Path.{◌≡◌, refl, sym, ap, ◌∙◌}
use mathlib.Core.List.{List, [], ◌∷◌, ◌++◌, append_assoc}
use native.Mathlib.Omega.{arith}
use native.Mathlib.Nat.{mod-lt}
use lib.ListN.{length, get_or, take, drop, replicate}
use lib.Seq.{length-take-le}
use Rattle.bits.specs.Fields.{field}
use Rattle.commands.specs.declared.Init.{Init}
use Rattle.commands.specs.declared.Setting.{Setting}
use Rattle.commands.specs.declared.Single.{Single}
use Rattle.commands.specs.Ranges.{good_count}
use Rattle.commands.specs.Commands.{Command, Command.init, Command.update, Command.stop, Command.single, no_setting, sum_all, check_of}
use Rattle.commands.specs.Commands.{good_init, good_entries, good_single, good}
use Rattle.commands.proofs.Tests.{both}
use Rattle.frames.specs.declared.Entry.{Entry}
use Rattle.frames.specs.Layout.{ident_in, init_of, settings_in, entries_in, command_in, check_in}
use Rattle.frames.specs.Bytes.{frame_size, frame, head, init_number, init_bytes, entry_bytes, settings_bytes}
use Rattle.frames.specs.Reader.{read_frame, found}
use Rattle.demands.specs.RoundTrips.{Held, Told, ReadsBack}
use Rattle.commands.proofs.Fits.{count_fits, init_fits, single_fits, listed_fit, then_zeros}
use Rattle.frames.proofs.Shaped.{Shaped}
use Rattle.demands.proofs.Accepted.{reads_found, framed}
use Rattle.frames.proofs.Idents.{init_here, update_here, stop_here, single_here, check_3, check_5}
use Rattle.demands.proofs.ThreeBytes.{entry_there, entry_lows}
use Rattle.demands.proofs.SixBytes.{NumberOf, six_word, number_of_lem}
use Rattle.writers.proofs.Rows.{length_settings}
use Rattle.writers.proofs.Outcomes.{written_frame}
use Rattle.demands.proofs.Rows.{settings_lows, settings_there}

-- a slice of the right shape, Check and good values reads as its command
reads_as : (s : List ℕ) (count : ℕ) (c : Command) → Shaped s count → command_in s count ≡ c → check_in s ≡ check_of c → good c ≡ true
    → read_frame s count ≡ found c
reads_as s count c h e k g =
    reads_found s count (record { shaped = h; right_check = k ∙ ap check_of (sym e); good_values = ap good e ∙ g }) ∙ ap found e

-- ---- Init

-- the six bytes of its number hold it, and its Check
pub record InitThere (s : List ℕ) (v : Init) : Type 0 where
  pub first : 128 ≤ get_or s 0 0
  pub ident_0 : ident_in s ≡ 0
  pub command : (count : ℕ) → command_in s count ≡ init v
  pub checked : check_in s ≡ check_of (init v)

pub init_number_lem : (v : Init) → Held (init v) → good (init v) ≡ true → NumberOf (init_number (check_of (init v)) v) (check_of (init v)) v
init_number_lem v held g =
    let k = check_of (init v) in
    let hk : k < 2 ^ 3 = mod-lt (v.factor + v.stim + v.lf + v.group + v.main) (omega arith) in
    number_of_lem k v hk (init_fits v g) held.0 held.1

pub init_there : (w : ℕ) (v : Init) (rest : List ℕ) → NumberOf w (check_of (init v)) v → InitThere (init_bytes w ++ rest) v
init_there w v rest n =
    let s = init_bytes w ++ rest in
    let least = n.high_bit in
    let most = n.ident_bits in
    let i : ident_in s ≡ 0 = omega arith in
    let word = six_word w rest in
    record {
      first = omega arith;
      ident_0 = i;
      command = λ count. init_here s count i ∙ ap (λ (x : ℕ). init (init_of x)) word ∙ ap init n.init_bits;
      checked = check_3 s i ∙ ap (λ (x : ℕ). field x 37 3) word ∙ n.check_bits;
    }

init_back : (w : ℕ) (v : Init) (rest : List ℕ) (count : ℕ)
    → NumberOf w (check_of (init v)) v → good_init v ≡ true → good_count count ≡ true
    → read_frame (init_bytes w ++ rest) count ≡ found (init v)
init_back w v rest count n g t =
    let low = field w 28 7 ∷ field w 21 7 ∷ field w 14 7 ∷ field w 7 7 ∷ field w 0 7 ∷ [] in
    let h = init_there w v rest n in
    reads_as (init_bytes w ++ rest) count (init v) (framed (field w 35 8) low rest count t h.first (omega arith) (rw h.ident_0))
    (h.command count) h.checked g

-- ---- Single

-- what stands in its bytes, and behind them
abbrev single_bytes : Single → ℕ → List ℕ → List ℕ
single_bytes v k rest = head 3 k ∷ entry_bytes 4 v.channel v.width v.current ++ rest

module _ (v : Single) (k : ℕ) (rest : List ℕ) (hk : k < 32) (g : good_single v ≡ true) where
  pub single_there : (count : ℕ) → command_in (single_bytes v k rest) count ≡ single v
  single_there count =
      let s = single_bytes v k rest in
      let there = entry_there 4 _ _ _ (omega arith) (single_fits v g) s 1 rest refl in
      single_here s count (omega arith) ∙ ap (λ (x : Entry). single (record { channel = x.lead; width = x.width; current = x.current })) there

  pub single_check : check_in (single_bytes v k rest) ≡ k
  single_check =
      let kept : field (head 3 k) 0 5 ≡ k = omega arith in
      check_5 (single_bytes v k rest) (omega arith) ∙ kept

  single_back : (count : ℕ) → k ≡ check_of (single v) → good_count count ≡ true → read_frame (single_bytes v k rest) count ≡ found (single v)
  single_back count e t =
      let low = entry_bytes 4 v.channel v.width v.current in
      let i : ident_in (single_bytes v k rest) ≡ 3 = omega arith in
      let lows = entry_lows 4 _ _ _ (omega arith) (single_fits v g) (omega arith) in
      reads_as (single_bytes v k rest) count (single v) (framed (head 3 k) low rest count t (omega arith) lows (rw i))
      (single_there count) (single_check ∙ e) g

-- ---- Update

entries_as : (s : List ℕ) (count : ℕ) (vs : List Setting)
    → settings_in s 1 count ≡ vs → entries_in s count ≡ vs ++ replicate (8 - count) no_setting
unfolding entries_in
entries_as s count vs e = rw e

update_back : (count : ℕ) (entries : List Setting) (k : ℕ) (rest : List ℕ)
    → length entries ≡ 8 → k < 32 → k ≡ check_of (update count entries) → good (update count entries) ≡ true
    → read_frame (head 1 k ∷ settings_bytes (take count entries) ++ rest) count ≡ found (update count entries)
update_back count entries k rest len hk e g =
    let p = both (good_count count) (good_entries entries count) g in
    let le = count_fits count p.0 in
    let vs = take count entries in
    let low = settings_bytes vs in
    let s = head 1 k ∷ low ++ rest in
    let fits = listed_fit entries count p.1 in
    let n : length vs ≡ count = length-take-le count entries (omega arith) in
    let i : ident_in s ≡ 1 = omega arith in
    let kept : field (head 1 k) 0 5 ≡ k = omega arith in
    let size : 1 + 3 * count ≡ suc (length low) = omega (arith, length_settings vs) in
    let there : settings_in s 1 count ≡ vs = rw n at (settings_there s vs 1 rest fits refl) in
    let zeros : vs ++ replicate (8 - count) no_setting ≡ entries = rw len at (then_zeros entries count p.1 (omega arith)) in
    reads_as s count (update count entries) (framed (head 1 k) low rest count p.0 (omega arith) (settings_lows vs fits) (rw i size))
    (update_here s count i ∙ ap (update count) (entries_as s count vs there ∙ zeros))
    (check_5 s (omega arith) ∙ kept ∙ e) g

-- ---- any command

frame_back : (c : Command) → Held c → good c ≡ true → (count : ℕ) → Told count c → (rest : List ℕ) → read_frame (frame c ++ rest) count ≡ found c
frame_back (init v) held g count told rest = init_back (init_number (check_of (init v)) v) v rest count (init_number_lem v held g) g told
frame_back (update own entries) held g count told rest =
    rw told (update_back own entries (check_of (update own entries)) rest held (mod-lt (sum_all entries) (omega arith)) refl g)
frame_back stop held g count told rest =
    let s = head 2 0 ∷ rest in
    reads_as s count stop (framed (head 2 0) [] rest count told (omega arith) tt refl)
    (stop_here s count refl) (check_5 s (omega arith)) refl
frame_back (single v) held g count told rest =
    single_back v (check_of (single v)) rest (mod-lt (v.channel + v.width + v.current) (omega arith)) g count refl told

pub reads_back : ReadsBack
reads_back c held g count told out rest room =
    rw (written_frame c out g room, append_assoc (frame c) (drop (frame_size c) out) rest)
    (frame_back c held g count told (drop (frame_size c) out ++ rest))
