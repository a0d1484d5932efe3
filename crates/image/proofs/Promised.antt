-- The promises of opening and of writing, from what the code does.
use Rattle.std.proofs.Common.{◌≡◌, ℕ, ◌<◌, List, ◌++◌, length, get_or, take, drop, Ok, sym, ap, ◌∙◌, subst, arith, length-append}
use Rattle.std.proofs.lemmas.List.{take_at}
use Rattle.timetable.specs.Table.{Table, Lawful}
use Rattle.image.specs.Format.{opened, fault, table_in}
use Rattle.image.specs.Written.{written}
use Rattle.image.specs.Promises.{Opens, Writes}
use Rattle.image.proofs.Sound.{lawful, opened_none}
use Rattle.image.proofs.ReadBack.{reads_back}
use Rattle.image.proofs.WriteBack.{writes_back}

-- what opens is lawful, and is written again as it was
pub opens : (bs : List ℕ) (t : Table) → ((i : ℕ) → get_or bs i 0 < 256) → opened bs ≡ Ok t → Opens bs t
opens bs t b e =
    let p = opened_none (fault bs) (table_in bs) t e in
    record { value = e; lawful = subst Lawful p.1 (lawful bs p.0); written_again = writes_back bs t b e }

-- what was written opens as the same table
pub writes : (t : Table) → Lawful t → (before after : List ℕ) (n : ℕ) → n ≡ length (written t) → after ≡ written t ++ drop n before → Writes t before after n
writes t l before after n e h =
    record {
      len = e;
      fits = omega (arith, ap length h, length-append (written t) (drop n before));
      bytes = h;
      read_back = ap opened (ap (take n) h ∙ take_at (written t) (drop n before) n (sym e)) ∙ reads_back t l;
    }
