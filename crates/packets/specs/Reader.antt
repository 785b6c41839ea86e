-- The reader of one packet of a generation (requests 12 and 13): its tests in their order, and what it hands back.
use Rattle.std.specs.Prelude.{ℕ, false, cond, not, List, [], ◌∷◌, ◌++◌, eqb, ltb, length, drop}
use Rattle.commands.specs.Answers.{Test, ◌when◌, first_of}
use Rattle.stuffing.specs.Stuffing.{pairs_good, unstuffed}
use Rattle.framing.specs.declared.Found.{Found}
use Rattle.framing.specs.Scan.{first_found, body_at}
use Rattle.packets.specs.Generation.{Generation}

-- what is handed back: packet number, command and the data's length, all zero where no packet was read
pub record Reading (C : Type 0) : Type 0 where
  pub answer : ℕ
  pub used : ℕ
  pub packet : ℕ
  pub command : C
  pub size : ℕ

-- what the covered bytes stand for: packet number, command, data
abbrev pub plain : List ℕ → List ℕ
plain c = unstuffed false c

-- packet number and command have two bytes in each generation
abbrev pub data_in : List ℕ → List ℕ
data_in c = drop 2 (plain c)

module _ {C : Type 0} (g : Generation C) where
  -- the bytes behind the header, which the checksum covers
  abbrev pub covered : List ℕ → List ℕ
  covered body = drop g.header body

  -- a pair that the writer would not make, too few or too many bytes, a bad value (4); output too short (16)
  abbrev pub covered_tests : List ℕ → ℕ → List Test
  covered_tests c room =
      4 when not (pairs_good false c)
      ∷ 4 when not (g.size_good (length (plain c)))
      ∷ 4 when not (g.right (plain c))
      ∷ 16 when ltb room (length (data_in c))
      ∷ []

  abbrev pub covered_answer : List ℕ → ℕ → ℕ
  covered_answer c room = first_of (covered_tests c room)

  -- wrong or missing checksum (3); wrong length (4); then the covered bytes
  abbrev pub body_tests : List ℕ → ℕ → List Test
  body_tests body room = 3 when not (g.check_right body) ∷ 4 when not (g.length_right body) ∷ covered_tests (covered body) room

  abbrev pub body_answer : List ℕ → ℕ → ℕ
  body_answer body room = first_of (body_tests body room)

  -- ---- what is handed back

  abbrev pub refused : ℕ → ℕ → Reading C
  refused answer used = record { answer = answer; used = used; packet = 0; command = g.no_command; size = 0 }

  abbrev pub found : List ℕ → ℕ → Reading C
  found c used = record { answer = 0; used = used; packet = g.packet_in (plain c); command = g.command_in (plain c); size = length (data_in c) }

  -- by the first test that holds; 16 uses no byte
  unfoldable pub answered : ℕ → List ℕ → ℕ → Reading C
  answered answer c used = cond (eqb answer 0) (found c used) (refused answer (cond (eqb answer 16) 0 used))

  -- the first packet that is finished in the bytes s, for an output of so much room; 1 where none is finished
  unfoldable pub reading : List ℕ → ℕ → Reading C
  reading s room =
      let f : Found = first_found s in
      let body : List ℕ = body_at s f in
      cond (eqb f.used 0) (refused 1 0) (answered (body_answer body room) (covered body) f.used)

-- the data at the output's start, and all behind it as it was; a refusal leaves all of it
unfoldable pub put : ℕ → List ℕ → List ℕ → List ℕ
put answer c out = cond (eqb answer 0) (data_in c ++ drop (length (data_in c)) out) out

-- what a reading leaves of the output
unfoldable pub data_put : {C : Type 0} → Generation C → List ℕ → List ℕ → List ℕ
data_put g s out =
    let f : Found = first_found s in
    let body : List ℕ = body_at s f in
    cond (eqb f.used 0) out (put (body_answer g body (length out)) (covered g body) out)
