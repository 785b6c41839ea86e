-- Records filed one after the other: what they leave alone, and what they leave in the ring. Assumes nothing.
use Prim.Native.Nat.{ℕ}
use mathlib.Core.Path.{◌≡◌, refl, sym, ap, ◌∙◌}
use mathlib.Core.List.{List, [], ◌∷◌, ◌++◌, append-nil, append_assoc}
use lib.ListN.{length, get_or}
use Rattle.trace.specs.declared.Part.{Part}
use Rattle.trace.specs.declared.Ring.{Ring}
use Rattle.trace.specs.declared.Record.{Record}
use Rattle.trace.specs.Tail.{tail_bytes}
use Rattle.trace.specs.Ring.{held, ready_answer, pushed, pushed_buf}
use Rattle.trace.specs.Claims.{Outside}
use Rattle.trace.proofs.Places.{Placed, placed_facts}
use Rattle.trace.proofs.Outcomes.{ready_facts}
use Rattle.trace.proofs.Taken.{push_rule, push_capacity}
use Rattle.trace.proofs.Theorems.{push_keeps_ready, calls_keep}
use Rattle.calls.specs.Filed.{filed}

pub filed_size : (at : Part) (g : Ring) (buf : List ℕ) (xs : List Record) → length (filed at g buf xs).buf ≡ length buf
unfolding filed
filed_size at g buf [] = refl
filed_size at g buf (x ∷ xs) =
    filed_size at (pushed buf at g x).ring (pushed_buf buf at g x) xs ∙ ((calls_keep buf at g).0 x).size

pub filed_outside : (at : Part) (g : Ring) (buf : List ℕ) (xs : List Record) (i : ℕ) → Outside at i
    → get_or (filed at g buf xs).buf i 0 ≡ get_or buf i 0
unfolding filed
filed_outside at g buf [] i o = refl
filed_outside at g buf (x ∷ xs) i o =
    filed_outside at (pushed buf at g x).ring (pushed_buf buf at g x) xs i o ∙ ((calls_keep buf at g).0 x).outside i o

-- a ring that lies whole in its part
pub ready_placed : (buf : List ℕ) (at : Part) (g : Ring) → ready_answer buf at g ≡ 0 → Placed (length buf) at g
ready_placed buf at g e = placed_facts (length buf) at g (ready_facts buf at g e).0

pub filed_ready : (at : Part) (g : Ring) (buf : List ℕ) (xs : List Record) → ready_answer buf at g ≡ 0
    → ready_answer (filed at g buf xs).buf at (filed at g buf xs).ring ≡ 0
unfolding filed
filed_ready at g buf [] e = e
filed_ready at g buf (x ∷ xs) e = filed_ready at (pushed buf at g x).ring (pushed_buf buf at g x) xs (push_keeps_ready buf at g x e)

pub filed_capacity : (at : Part) (g : Ring) (buf : List ℕ) (xs : List Record) → ready_answer buf at g ≡ 0
    → (filed at g buf xs).ring.capacity ≡ g.capacity
unfolding filed
filed_capacity at g buf [] e = refl
filed_capacity at g buf (x ∷ xs) e =
    filed_capacity at (pushed buf at g x).ring (pushed_buf buf at g x) xs (push_keeps_ready buf at g x e)
    ∙ push_capacity buf at g x (ready_placed buf at g e)

-- on a ring that holds the tail of the records before
pub filed_tail : (at : Part) (g : Ring) (buf : List ℕ) (before xs : List Record) (capacity : ℕ) → ready_answer buf at g ≡ 0 → g.capacity ≡ capacity
    → held buf at g ≡ tail_bytes capacity before
    → held (filed at g buf xs).buf at (filed at g buf xs).ring ≡ tail_bytes capacity (before ++ xs)
unfolding filed
filed_tail at g buf before [] capacity e c h = h ∙ ap (tail_bytes capacity) (sym (append-nil before))
filed_tail at g buf before (x ∷ xs) capacity e c h =
    let p = ready_placed buf at g e in
    filed_tail at (pushed buf at g x).ring (pushed_buf buf at g x) (before ++ (x ∷ [])) xs capacity
    (push_keeps_ready buf at g x e)
    (push_capacity buf at g x p ∙ c)
    (push_rule buf at g x p before (h ∙ ap (λ (n : ℕ). tail_bytes n before) (sym c)) ∙ ap (λ (n : ℕ). tail_bytes n (before ++ (x ∷ []))) c)
    ∙ ap (tail_bytes capacity) (append_assoc before (x ∷ []) xs)
