-- `padded` meets its contract.
use Rattle.std.proofs.Common.{ℕ, ◌-◌, ◌≤◌, ◌≡◌, List, ◌++◌, length, take, drop, replicate, get_or, refl, sym, ap, ◌∙◌, arith, length-append, take_at}
use Rattle.std.proofs.lemmas.List.{drop_at, drop-replicate, length-replicate}
use Rattle.reply.specs.Reply.{Carries}
use Rattle.reply.proofs.padded.Goals as goal

-- A text over the first of some bytes, all of them zero.
over_zeros : {text front zeros : List ℕ} {n l : ℕ} → front ≡ text → n ≡ length text → l ≡ length text
    → zeros ≡ replicate (length zeros) (get_or zeros 0 0) → get_or zeros 0 0 ≡ 0 → n ≤ length zeros
    → Carries (λ bytes. bytes ≡ text) (record { text = front ++ drop n zeros; length = l })
over_zeros {text} {front} {zeros} {n} {l} is n_is l_is same zero within =
    let m = length zeros in
    let long : length front ≡ l = ap length is ∙ sym l_is in
    let parts : take l (front ++ drop n zeros) ≡ text = take_at front (drop n zeros) l long ∙ is in
    let rest : drop n zeros ≡ replicate (m - n) 0 = ap (drop n) (same ∙ ap (replicate m) zero) ∙ drop-replicate n m 0 in
    let room : length (front ++ drop n zeros) - l ≡ m - n =
    omega (arith, long, length-append front (drop n zeros), ap length rest, length-replicate {A = ℕ} (m - n) 0) in
    record {
      within = omega (arith, long, length-append front (drop n zeros));
      count = l_is ∙ ap length (sym parts);
      answers = parts;
      rest = drop_at front (drop n zeros) l long ∙ rest ∙ ap (λ k. replicate k 0) (sym room);
    }

pub returns : goal.returns
returns c = over_zeros c.copy_from_slice.ensures.after refl refl refl (omega arith) c.requires
