-- Where a frame's fields stand (document 01, "The four frames"; source 003, tables 5, 7, 9 and 11): a command from its bytes.
use Rattle.std.specs.Prelude.{ℕ, zero, suc, ◌+◌, ◌-◌, ◌*◌, ◌%◌, ◌^◌, cond, List, [], ◌∷◌, ◌++◌, eqb, get_or, replicate}
use Rattle.bits.specs.Fields.{field}
use Rattle.commands.specs.declared.Init.{Init}
use Rattle.commands.specs.declared.Setting.{Setting}
use Rattle.commands.specs.declared.Single.{Single}
use Rattle.commands.specs.Commands.{Command, Command.init, Command.update, Command.stop, Command.single, no_setting}
use Rattle.frames.specs.declared.Entry.{Entry}

-- bits 6 and 5 of the first byte are the Ident
abbrev pub ident_in : List ℕ → ℕ
ident_in s = field (get_or s 0 0) 5 2

-- by Ident: Init, Update, Stop, Single
abbrev pub by_ident {ℓ} : {A : Type ℓ} → ℕ → A → A → A → A → A
by_ident k i u p s = cond (eqb k 0) i (cond (eqb k 1) u (cond (eqb k 2) p s))

-- bytes: 6; 1 + 3 per listed channel; 1; 4
abbrev pub size_for : ℕ → ℕ → ℕ
size_for k count = by_ident k 6 (1 + 3 * count) 1 4

-- ---- Init: Ident 2, Check 3, N_Factor 3, Channel_Stim 8, Channel_Lf 8, two don't-care bits, Group_Time 5, Main_Time 11, over 7 bits a byte

-- three bytes as one number, of each the seven lowest bits
abbrev pub septets : ℕ → ℕ → ℕ → ℕ
septets a b c = a % 2 ^ 7 * 2 ^ 14 + b % 2 ^ 7 * 2 ^ 7 + c % 2 ^ 7

unfoldable pub init_word : List ℕ → ℕ
init_word s =
    septets (get_or s 0 0) (get_or s 1 0) (get_or s 2 0) * 2 ^ 21 + septets (get_or s 3 0) (get_or s 4 0) (get_or s 5 0)

abbrev pub init_of : ℕ → Init
init_of w = record { factor = field w 34 3; stim = field w 26 8; lf = field w 18 8; group = field w 11 5; main = field w 0 11 }

-- ---- Update and Single: three bytes from `at` on, a first variable in bits 6 to `low` of the first byte (Mode: 6,5; Channel_Number: 6..4)
-- and Width bits 8,7 in its bits 1,0; Width bits 6..0; Current 7

unfoldable pub entry_in : ℕ → List ℕ → ℕ → Entry
entry_in low s at =
    record {
      lead = field (get_or s at 0) low (7 - low);
      width = field (get_or s at 0) 0 2 * 2 ^ 7 + get_or s (at + 1) 0 % 2 ^ 7;
      current = get_or s (at + 2) 0 % 2 ^ 7;
    }

abbrev pub setting_in : List ℕ → ℕ → Setting
setting_in s at = let e : Entry = entry_in 5 s at in record { mode = e.lead; width = e.width; current = e.current }

abbrev pub single_in : List ℕ → Single
single_in s = let e : Entry = entry_in 4 s 1 in record { channel = e.lead; width = e.width; current = e.current }

-- the settings of the listed channels, lowest first
unfoldable pub settings_in : List ℕ → ℕ → ℕ → List Setting
settings_in s at zero = []
settings_in s at (suc count) = setting_in s at ∷ settings_in s (at + 3) count

-- Update entries past the count read as zero
unfoldable pub entries_in : List ℕ → ℕ → List Setting
entries_in s count = settings_in s 1 count ++ replicate (8 - count) no_setting

-- ---- any frame

unfoldable pub command_in : List ℕ → ℕ → Command
command_in s count =
    by_ident (ident_in s) (init (init_of (init_word s))) (update count (entries_in s count)) stop (single (single_in s))

-- Check 3 for Init, Check 5 otherwise
unfoldable pub check_in : List ℕ → ℕ
check_in s = cond (eqb (ident_in s) 0) (field (init_word s) 37 3) (field (get_or s 0 0) 0 5)
