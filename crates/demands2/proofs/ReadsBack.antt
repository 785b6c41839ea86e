-- What was written reads back. Assumes nothing.
use Prim.Native.Nat.{ℕ, suc, ◌≤◌}
use mathlib.Core.Bool.{true, true≢false}
use mathlib.Core.Path.{◌≡◌, sym, ap, ◌∙◌}
use mathlib.Core.Logic.{⊎_elim}
use mathlib.Core.List.{◌∷◌}
use native.Mathlib.Omega.{arith}
use lib.ListN.{length}
use borrow.Author.Tests.{le-leb}
use Rattle.packets.specs.Writer.{wrote_of}
use Rattle.packets.proofs.Writings.{good_written}
use Rattle.packets.proofs.ReadsBack.{content_back, written_back}
use Rattle.commands2.specs.declared.Command.{Command}
use Rattle.commands2.specs.declared.Command.TheVariants.{Other}
use Rattle.commands2.specs.Commands.{number_of, data_of, command_of, good, is_other, right}
use Rattle.commands2.proofs.DataBytes.{length_data_le}
use Rattle.commands2.proofs.EachCommand.{carried_or_other}
use Rattle.commands2.proofs.RoundTrip.{reads_data, right_data, number_of_lem}
use Rattle.packets2.specs.Rehastim2.{size_good, rehastim2}
use Rattle.packets2.proofs.Lawful.{lawful, length_for}
use Rattle.writer2.specs.Writer.{packet_bytes}
use Rattle.demands2.specs.RoundTrips.{ReadsBack, OtherReadsBack}

-- packet number, command and so many data bytes
size_for : (n : ℕ) → n ≤ 60 → size_good (suc (suc n)) ≡ true
unfolding size_good
size_for n short = rw (le-leb 2 (suc (suc n)) (omega arith)) (le-leb (suc (suc n)) 62 (omega arith))

pub reads_back : ReadsBack
unfolding wrote_of
reads_back packet c to done g rest out garbage fits =
    let well = good_written (good c) (packet_bytes packet c) to done in
    let d = data_of c in
    let same = reads_data c well in
    rw same at (written_back rehastim2 lawful packet (number_of c ∷ d) (length_for (packet ∷ number_of c ∷ d)) (size_for (length d) (omega (arith, length_data_le c)))
    (rw same (right_data c well)) (good c) to done g rest out garbage fits)

-- another command is its number alone, and nothing is asked of its data
is_number : (c : Command) → is_other c ≡ true → c ≡ Other (number_of c)
is_number c other =
    ⊎_elim (λ carried. absurd (true≢false (sym other ∙ carried))) (λ o. o.1 ∙ ap Other (sym (ap number_of o.1))) (carried_or_other c)

pub other_reads_back : OtherReadsBack
unfolding right
other_reads_back packet number d other short g rest out garbage fits =
    let same : command_of number d ≡ Other number = is_number (command_of number d) other ∙ ap Other (number_of_lem number d) in
    rw same at (content_back rehastim2 lawful packet (number ∷ d) (length_for (packet ∷ number ∷ d)) (size_for (length d) short) (rw other) g rest out garbage fits)
