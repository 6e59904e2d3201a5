-- An entry as a quote and a caplet, and those of the entry at a place of the lent lists: what the walks over a basket take for an entry.
use Rattle.std.specs.Prelude.{Bool, false, List, ℕ, get_or, Float}
use Rattle.std.specs.Float.{nan}
use Rattle.hullwhite_formulas.specs.declared.instruments.Optionlet.{Optionlet}
use Rattle.fit_objective.specs.declared.market.Quote.{Quote}
use Rattle.basket_entries.specs.Entries.{Entry, volatility_type_of, entries_of}
use Rattle.basket.specs.declared.entries.Entries.{Entries}

abbrev pub entry_of : Quote → Optionlet → Entry
entry_of quote caplet = record { quote = quote.vol_type; strike = caplet.strike; start = caplet.start; end = caplet.end; vol = quote.volatility }

-- at place i of the lent lists
abbrev pub lent_quote : List Bool → List Float → ℕ → Quote
lent_quote ns vs i = record { vol_type = volatility_type_of (get_or ns i false); volatility = get_or vs i nan }

abbrev pub lent_caplet : List Float → List Float → List Float → ℕ → Optionlet
lent_caplet ks ts ends i = record { strike = get_or ks i nan; start = get_or ts i nan; end = get_or ends i nan }

-- all of them
abbrev pub entries_in : Entries → List Entry
entries_in e = entries_of e.normals.now e.strikes.now e.starts.now e.ends.now e.vols.now
