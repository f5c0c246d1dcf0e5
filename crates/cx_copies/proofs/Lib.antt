mod NamingLemmas
