pub mod EntryLeads
