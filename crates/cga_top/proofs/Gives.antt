-- What a source gave, over several reads.
use Rattle.std.proofs.Common.{◌≡◌, ◌∙◌, ℕ, List, [], ◌++◌, length, drop, Option, None, Some, sym, ap, subst, append_assoc}
use Rattle.std.proofs.Math.Seq.{drop-append_seam}
use Rattle.std.proofs.lemmas.List.{append-nil}
use Rattle.std.specs.Io.KnownBytes.{Consumes, Keeps}
use Rattle.cga_top.specs.Outside.{Gave, Outside}
use Rattle.cga_top.proofs.Known.{consumes_more, consumes_nothing}

-- Who stays as it is gives nothing.
pub gave_nothing : (o : Outside) → Gave [] o o
gave_nothing o = record { given = sym (append-nil o.given); taken = consumes_nothing o.left }

-- Who gives some bytes and then others gives both.
pub gave_more : (old mid new : Outside) (xs ys : List ℕ) → Gave xs old mid → Gave ys mid new → Gave (xs ++ ys) old new
gave_more old mid new xs ys p q = record {
  given = q.given ∙ ap (λ (l : List ℕ). l ++ ys) p.given ∙ append_assoc old.given xs ys;
  taken = consumes_more old.left mid.left new.left xs ys p.taken q.taken;
}

-- nothing more was read
pub record SameSource (old new : Outside) : Type 0 where
  pub given : new.given ≡ old.given
  pub left : new.left ≡ old.left
  pub ended : new.ended ≡ old.ended
  pub reads : new.reads_failed ≡ old.reads_failed

-- What stays the same twice stays the same.
pub same_more : (a b c : Outside) → SameSource a b → SameSource b c → SameSource a c
same_more a b c p q = record { given = q.given ∙ p.given; left = q.left ∙ p.left; ended = q.ended ∙ p.ended; reads = q.reads ∙ p.reads }

-- A source that stays the same has given what it gave.
pub gave_same : (read : List ℕ) (old mid new : Outside) → Gave read old mid → SameSource mid new → Gave read old new
gave_same read old mid new g same = record {
  given = same.given ∙ g.given;
  taken = subst (λ (left : Option (List ℕ)). Consumes old.left left read) (sym same.left) g.taken;
}

-- a read that failed took nothing
consumes_kept : (a b c : Option (List ℕ)) (read : List ℕ) → Consumes a b read → Keeps b c → Consumes a c read
consumes_kept None b c read p q = tt
consumes_kept (Some xs) None c read p q = absurd p
consumes_kept (Some xs) (Some ys) None read p q = absurd q
consumes_kept (Some xs) (Some ys) (Some zs) read p q = p ∙ ap (λ (l : List ℕ). read ++ l) (sym q)

-- Where a source gives nothing more, what it gave stays.
pub gave_kept : (read : List ℕ) (old mid new : Outside) → Gave read old mid → new.given ≡ mid.given
    → Keeps mid.left new.left → Gave read old new
gave_kept read old mid new g given keeps = record { given = given ∙ g.given; taken = consumes_kept old.left mid.left new.left read g.taken keeps }

-- a read that gave nothing
pub gave_none : (read : List ℕ) (old mid new : Outside) → Gave read old mid → new.given ≡ mid.given ++ []
    → Consumes mid.left new.left [] → Gave read old new
gave_none read old mid new g given taken =
    subst (λ (l : List ℕ). Gave l old new) (append-nil read) (gave_more old mid new read [] g (record { given = given; taken = taken }))

-- what was given is told by what was given before and after
pub same_given : (old xs ys new : List ℕ) → new ≡ old ++ xs → new ≡ old ++ ys → xs ≡ ys
same_given old xs ys new p q = sym (drop-append_seam old xs) ∙ ap (λ (l : List ℕ). drop (length old) l) (sym p ∙ q) ∙ drop-append_seam old ys
