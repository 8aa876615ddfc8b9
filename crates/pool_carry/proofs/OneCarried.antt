-- A pool is carried to one pool and no other, where its own rows and its roots lead to own rows and to roots of tries.
use Rattle.std.proofs.Common.{◌≡◌, ℕ, ◌<◌, sym, ◌∙◌, false, map}
use Rattle.node_heap.specs.Links.{count, HasLink}
use Rattle.node_heap.specs.Forms.{links_in}
use Rattle.pool_text.specs.Rules.{Rules}
use Rattle.pool_text.specs.Pool.{forms_in, row_count, settings_by}
use Rattle.pool_text.specs.declared.pool.Pool.{Pool}
use Rattle.pool_text.specs.declared.rules.TheConstants.{MOST_HISTORY}
use Rattle.pool_carry.specs.Carried.{is_of_trie, IsCarried}
use Rattle.pool_carry.proofs.Related.{related-pools}
use Rattle.pool_carry.proofs.Matched.{AreMatched, LeadsToOwn, match-one, turned-match}
use Rattle.pool_carry.proofs.Agree.{zip-mapped, image-match, match-alike}

pub carried-one : (to : Rules) (bits : ℕ) (P Q R : Pool) → ((l k : ℕ) → l < row_count P → is_of_trie (forms_in P l) ≡ false → HasLink (links_in (forms_in P)) l k → LeadsToOwn to bits P k) → ((r : ℕ) → 0 < count r P.roots → LeadsToOwn to bits P r)
    → IsCarried to bits P Q → IsCarried to bits P R → Q ≡ R
carried-one to bits P Q R leads tops c d =
    c.same
    ∙ related-pools (AreMatched to bits P c.image c.forms d.image d.forms) (match-one to bits P c.image c.forms c.images d.image d.forms d.images)
    (λ x y z a b. match-one to bits P d.image d.forms d.images c.image c.forms c.images z x y (turned-match to bits P c.image c.forms d.image d.forms x z a) (turned-match to bits P c.image c.forms d.image d.forms y z b))
    c.forms d.forms (match-alike to bits P c.image c.forms c.images d.image d.forms d.images leads) c.many d.many (map c.image P.roots) (map d.image P.roots) (settings_by bits MOST_HISTORY) c.rooted d.rooted
    (zip-mapped (AreMatched to bits P c.image c.forms d.image d.forms) c.image d.image P.roots (λ k there. image-match to bits P c.image c.forms c.images d.image d.forms d.images k (tops k there)))
    ∙ sym d.same
