-- Every grammar that one token decides is read firmly.
use Rattle.std.proofs.Common.{List}
use Rattle.ent_text.specs.Class.{Class, among}
use Rattle.ent_text.specs.Grammar.{Grammar, give, token, up_to, chain, pick, many, more, firsts, reads}
use Rattle.ent_text.specs.GrammarSpelling.{spells}
use Rattle.ent_text.specs.Foresight.{sample, IsPredictive}
use Rattle.ent_text.proofs.Tongue.{Firm, firm_then}
use Rattle.ent_text.proofs.Picks.{end_firm, token_firm, limited_firm, pick_firm, no_divider}
use Rattle.ent_text.proofs.Openings.{opening}
use Rattle.ent_text.proofs.Lists.{many_firm}
use Rattle.ent_text.proofs.Dividers.{more_firm}

pub firm : {A : Type 0} (g : Grammar A) (follow : List Class) → IsPredictive g follow → Firm (spells g) (reads g)
firm (give x) follow h = end_firm x
firm (token c) follow h = token_firm c
firm (up_to most) follow h = limited_firm most h
firm (chain g next) follow h = firm_then (reads g) (λ e x. reads (next x.0) e x.1) (firm g _ (h (sample g)).0)
    (λ x. firm (next x) follow (h x).1)
firm (pick g h) follow k = pick_firm (among (firsts g)) (reads g) (reads h) (firm g follow k.2) (firm h follow k.3)
firm (many limit item) follow h =
    many_firm (among (firsts item)) (reads item) (firm item _ h.3) (opening item _ h.3)
    (λ t e. no_divider (firsts item) t h.2 e) limit
firm (more limit divider item) follow h =
    more_firm divider (among (firsts item)) (reads item) (firm item _ h.3) (opening item _ h.3)
    (λ t e. no_divider (firsts item) t h.2 e) limit
